-- Unwinding an answer: when it refuses, in the order of the causes, and what it makes of the answer. Assumes nothing.
use Rattle.std.specs.Prelude.{◌≡◌, ℕ, true, cond, List, length, Some, None, Ok, Err, Option, Result, ◌==◌}
use Rattle.std.specs.Option.{option_map}
use Rattle.std.specs.List.{AllByRecursion}
use Rattle.weight.specs.declared.kind.Weight.{Ghosts}
use Rattle.sheet.specs.declared.buffers.Phase.TheVariants.{Working}
use Rattle.sheet.specs.declared.row.Item.{Item}
use Rattle.sheet.specs.declared.refusal.Refusal.{Refusal}
use Rattle.sheet.specs.declared.refusal.Refusal.TheVariants.{AnswerLength, NeitherYesNorNo, ClauseUnmet}
use Rattle.sheet.specs.Clauses.{Clause}
use Rattle.sheet.specs.Literals.{Literal}
use Rattle.sheet.specs.Records.{Record}
use Rattle.sheet.specs.Sheets.{Lent, decoded}
use Rattle.sheet.specs.Together.{HoldsTogether}
use Rattle.meaning.specs.Accepted.{Accepted, Plan, plan_cost}
use Rattle.meaning.specs.Answers.{Answer, cost, paid_cost, AtMost}
use Rattle.meaning.specs.Calls.{delivered, Reached}
use Rattle.meaning.specs.LeastCosts.{Faithful}
use Rattle.meaning.specs.Unwinding.{plan_of}
use Rattle.unwinding.specs.Bytes.{values_of, Bits, first_above_one, first_unmet}
use Rattle.unwinding.specs.Charges.{Weighed, sheet_cost_in, paid_cost_in}
use Rattle.session.specs.Refusing.{or_else, Refuses}

-- an answer of this length for so many items
abbrev pub length_cause : ℕ → ℕ → Option Refusal
length_cause items sent = cond (sent == items) None (Some (AnswerLength items))

-- an answer in bytes, for so many items and these clauses
abbrev pub answer_cause : ℕ → List Clause → List ℕ → Option Refusal
answer_cause items cs answer =
    or_else (length_cause items (length answer))
    (or_else (option_map NeitherYesNorNo (first_above_one answer))
    (option_map ClauseUnmet (first_unmet (values_of answer) cs)))

-- why an unwind refuses where the buffers hold together
abbrev pub unwind_cause : {W : Type 0} (m : Ghosts W) → Lent W → List ℕ → Option Refusal
unwind_cause m b answer = answer_cause b.counts.items (decoded m b).clauses answer

-- An unwind that passes: the answer as it was sent, as it is then, the sheet's cost of what was sent, and the total of the labels that are then paid.
pub record Unwound {W : Type 0} (m : Ghosts W) (b : Lent W) (sent after : List ℕ) (sheet_cost paid : W) : Type 0 where
  pub together : HoldsTogether m Working b
  pub passes : unwind_cause m b sent ≡ None
  pub answers : Answer (decoded m b) (values_of sent)
  pub plan : values_of after ≡ plan_of (decoded m b) (values_of sent)
  pub bits : Bits after
  pub long : length after ≡ length sent
  pub sheet_costs : m.value sheet_cost ≡ cost m.kind (decoded m b) (values_of sent)
  pub paid_costs : m.value paid ≡ paid_cost m.kind (decoded m b).weights (values_of after) 1 (decoded m b).row

abbrev pub UnwindAnswered : {W : Type 0} (m : Ghosts W) → Lent W → List ℕ → List ℕ → Result (W × W) Refusal → Type 0
UnwindAnswered m b sent after (Ok costs) = Unwound m b sent after costs.0 costs.1
UnwindAnswered m b sent after (Err e) = Refuses m Working b (unwind_cause m b sent) e × (after ≡ sent)

-- What an answer has become meets every accepted hard clause; it breaks wishes for no more than the sheet's cost, and no more than that is paid.
pub record PlansWithin {W : Type 0} (m : Ghosts W) (acc : List (Accepted m.Value)) (after : List ℕ) (sheet_cost paid : W) : Type 0 where
  pub keeps : Plan acc (values_of after)
  pub no_dearer : AtMost m.kind (plan_cost m.kind acc (values_of after)) (m.value sheet_cost)
  pub pays_no_more : AtMost m.kind (m.value paid) (m.value sheet_cost)

abbrev pub UnwoundWithin : {W : Type 0} (m : Ghosts W) → List (Accepted m.Value) → List ℕ → Result (W × W) Refusal → Type 0
UnwoundWithin m acc after (Ok costs) = PlansWithin m acc after costs.0 costs.1
UnwoundWithin m acc after (Err e) = Unit {0}

-- On a sheet that calls reached, with these clauses accepted, which an unwind leaves as it is.
abbrev pub UnwindFaithful : {W : Type 0} (m : Ghosts W) → Lent W → List ℕ → Result (W × W) Refusal → Type 0
UnwindFaithful m b after r = (acc : List (Accepted m.Value)) → Reached m.kind delivered acc (decoded m b) → Faithful m.kind acc (decoded m b) × UnwoundWithin m acc after r

-- What unwinding asks of an answer and of the parts of the buffers that are in use.
pub record Unwindable {W : Type 0} (m : Ghosts W) (answer : List ℕ) (row : List Item) (stack : List Record) (weights : List W) : Type 0 where
  pub bits : Bits answer
  pub long : length answer ≡ length row
  pub literals : AllByRecursion (λ r. AllByRecursion (Literal (length answer)) r.lits) stack
  pub weighed : Weighed (length weights) row
  -- no cost passes the ceiling
  pub sheet_within : (bytes : List ℕ) → m.kind.within (sheet_cost_in m row weights bytes) ≡ true
  pub paid_within : (bytes : List ℕ) → m.kind.within (paid_cost_in m row weights bytes) ≡ true
