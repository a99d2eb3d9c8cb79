-- What an unwind finds in buffers that hold together, and what it leaves of the answer. Assumes nothing.
use Rattle.std.proofs.Common.{◌≡◌, ℕ, true, eqb, List, map, length, take, is_ok, None, Ok, Err, Result, sym, refl, ap, ◌∙◌, subst, inl, inr, arith}
use Rattle.std.specs.Option.{option_map}
use Rattle.std.specs.List.{AllByRecursion}
use Rattle.std.proofs.ByRecursion.{All-weaker}
use Rattle.std.proofs.lemmas.List.{length-take-le, take_all}
use Rattle.std.proofs.lemmas.Bool.{cases_Bool, cond-false, eqb-true, false≢true}
use Rattle.weight.specs.Kind.{Kind, Lawful, ExactOrTooLarge}
use Rattle.weight.specs.declared.kind.Weight.{Ghosts}
use Rattle.sheet.specs.declared.buffers.Phase.TheVariants.{Working as in_work}
use Rattle.sheet.specs.declared.clause.Tag.{Tag}
use Rattle.sheet.specs.declared.clause.Tag.TheVariants.{Hard, Soft, Working}
use Rattle.sheet.specs.declared.refusal.Refusal.{Refusal}
use Rattle.sheet.specs.declared.refusal.Refusal.TheVariants.{NeitherYesNorNo, ClauseUnmet}
use Rattle.sheet.specs.Clauses.{Clause}
use Rattle.sheet.specs.Literals.{Literal}
use Rattle.sheet.specs.Sheets.{Lent, used_clauses, used_row, used_records, used_weights, decoded}
use Rattle.sheet.specs.Together.{HoldsTogether, of_phase}
use Rattle.meaning.specs.Accepted.{Accepted, Plan}
use Rattle.meaning.specs.Answers.{row_cost}
use Rattle.meaning.specs.Calls.{Reached, delivered}
use Rattle.meaning.specs.Unwinding.{plan_of, reset, unwound}
use Rattle.meaning.proofs.Costs.{working_free}
use Rattle.meaning.proofs.Reaching.{reached_faithful}
use Rattle.unwinding.specs.Bytes.{values_of, Bits, first_above_one, first_unmet, row_and_stack}
use Rattle.unwinding.specs.Charges.{Weighed, sheet_cost_in, paid_cost_in}
use Rattle.unwinding.proofs.Ceilings.{held_row_cost_within, held_paid_cost_within}
use Rattle.unwinding.proofs.Meeting.{meets_from_none}
use Rattle.unwinding.proofs.Searching.{bits_from_none}
use Rattle.session.specs.Unwound.{length_cause, answer_cause, unwind_cause, Unwindable, Unwound, UnwindAnswered, UnwoundWithin, UnwindFaithful}
use Rattle.session.proofs.Causes.{some_none, neither, none_mapped}

-- a sum that passes no ceiling is answered
pub exact_ok : {V W E : Type 0} (k : Kind V) (value : W → V) (exact : V) (r : Result W E) → ExactOrTooLarge k value exact r → k.within exact ≡ true → is_ok r ≡ true
exact_ok k value exact (Ok w) answered within = refl
exact_ok k value exact (Err e) answered within = absurd (false≢true (sym answered ∙ within))

-- Where no cause is found, each is looked for in vain.

module _ (items : ℕ) (cs : List Clause) (answer : List ℕ) (passes : answer_cause items cs answer ≡ None) where
  behind_length : (option_map NeitherYesNorNo (first_above_one answer) ≡ None) × (option_map ClauseUnmet (first_unmet (values_of answer) cs) ≡ None)
  behind_length = neither _ _ (neither (length_cause items (length answer)) _ passes).1

  pub passes_long : length answer ≡ items
  passes_long = elim (cases_Bool (eqb (length answer) items)) [
    | inl same ↦ eqb-true (length answer) items same
    | inr other ↦ absurd (some_none (sym (cond-false _ _ _ other) ∙ (neither (length_cause items (length answer)) _ passes).0))
  ]

  pub passes_bits : Bits answer
  passes_bits = bits_from_none answer (none_mapped NeitherYesNorNo (first_above_one answer) behind_length.0)

  pub passes_met : first_unmet (values_of answer) cs ≡ None
  passes_met = none_mapped ClauseUnmet (first_unmet (values_of answer) cs) behind_length.1

works : (t : Tag) → of_phase in_work t ≡ true → t ≡ Working
works Hard is = absurd (false≢true is)
works (Soft n) is = absurd (false≢true is)
works Working is = refl

module _ {W : Type 0} (m : Ghosts W) (laws : Lawful m.kind) (b : Lent W) (together : HoldsTogether m in_work b) (sent : List ℕ) (passes : answer_cause b.counts.items (used_clauses b) sent ≡ None) where
  long : length sent ≡ b.counts.items
  long = passes_long b.counts.items (used_clauses b) sent passes

  row_long : length (used_row b) ≡ b.counts.items
  row_long = length-take-le b.counts.items b.row together.row.fits

  pub unwindable : Unwindable m sent (used_row b) (used_records b) (used_weights b)
  unwindable = record {
    bits = passes_bits b.counts.items (used_clauses b) sent passes;
    long = long ∙ sym row_long;
    literals = subst (λ n. AllByRecursion (λ r. AllByRecursion (Literal n) r.lits) (used_records b)) (sym long) together.stack.literals;
    weighed = subst (λ n. Weighed n (used_row b)) (sym (length-take-le b.counts.softs b.weights together.weights.fits)) together.row.ranged;
    sheet_within = λ bytes. held_row_cost_within m laws together (values_of bytes);
    paid_within = λ bytes. held_paid_cost_within m laws together (values_of bytes);
  }

  -- the whole row in use is that of the answer's items
  whole : take (length sent) (used_row b) ≡ used_row b
  whole = take_all (length sent) (used_row b) (omega (arith, long, row_long))

  -- the answer and the costs when it is unwound
  pub unwound_from : (after : List ℕ) (x y : W)
      → values_of after ≡ plan_of (row_and_stack (take (length sent) (used_row b)) (used_records b)) (values_of sent) → Bits after → length after ≡ length sent
      → m.value x ≡ sheet_cost_in m (used_row b) (used_weights b) sent → m.value y ≡ paid_cost_in m (used_row b) (used_weights b) after
      → Unwound m b sent after x y
  unfolding decoded
  unwound_from after x y plan bits same costs pays =
      let k = m.kind in
      let weights = map m.value (used_weights b) in
      -- a working sheet has no softs to charge
      let free = working_free laws weights (values_of sent) (used_clauses b) (All-weaker _ _ (λ c. works c.tag) (used_clauses b) together.sheet.kinds) in
      let rows = row_cost k weights (values_of sent) 1 (used_row b) in
      record {
        together = together;
        passes = passes;
        answers = meets_from_none (values_of sent) (used_clauses b) together.sheet.kinds (passes_met b.counts.items (used_clauses b) sent passes);
        plan = plan ∙ ap (λ row. unwound (used_records b) (reset row (values_of sent))) whole;
        bits = bits;
        long = same;
        sheet_costs = costs ∙ sym (ap (k.sum rows) free ∙ laws.sum_zero rows);
        paid_costs = pays;
      }

-- the cause found in the words is that of the sheet that they stand for
pub cause_is : {W : Type 0} (m : Ghosts W) (b : Lent W) (sent : List ℕ) → answer_cause b.counts.items (used_clauses b) sent ≡ unwind_cause m b sent
unfolding decoded
cause_is m b sent = refl

module _ {W : Type 0} (m : Ghosts W) (laws : Lawful m.kind) (b : Lent W) (sent after : List ℕ) where
  within : (acc : List (Accepted m.Value)) → Reached m.kind delivered acc (decoded m b) → (r : Result (W × W) Refusal) → UnwindAnswered m b sent after r → UnwoundWithin m acc after r
  within acc reached (Ok costs) done =
      let k = m.kind in
      let v = values_of sent in
      let s = decoded m b in
      let faithful = reached_faithful laws delivered acc s reached in
      let plan = faithful.answers_unwind v done.answers in
      let pays = faithful.unwound_pays_no_more v done.answers in
      record {
        keeps = subst (Plan acc) (sym done.plan) plan.0;
        no_dearer = rw (done.plan, done.sheet_costs) plan.1;
        pays_no_more = rw (done.paid_costs, done.sheet_costs, done.plan) pays;
      }
  within acc reached (Err e) refused = tt

  pub unwind_faithful : (r : Result (W × W) Refusal) → UnwindAnswered m b sent after r → UnwindFaithful m b after r
  unwind_faithful r answered = λ acc reached. (reached_faithful laws delivered acc (decoded m b) reached, within acc reached r answered)
