-- The step on a sheet is the step on its clauses, and what a run of it answers. Assumes nothing.
use Rattle.std.proofs.Common.{◌≡◌, ℕ, zero, suc, ◌+◌, ◌≤◌, min, true, List, length, take, Some, None, Option, sym, refl, ap, ◌∙◌, arith}
use Rattle.std.specs.Option.{option_map}
use Rattle.weight.specs.Kind.{Lawful}
use Rattle.weight.specs.declared.kind.Weight.{Ghosts}
use Rattle.sheet.specs.declared.buffers.Phase.TheVariants.{Working as at_work}
use Rattle.sheet.specs.Clauses.{Clause, Laid, clauses}
use Rattle.sheet.specs.Sheets.{Sheet, Lent, decoded, used_clauses}
use Rattle.sheet.specs.Together.{HoldsTogether}
use Rattle.meaning.specs.declared.report.Report.{Report}
use Rattle.meaning.specs.Running.{Outcome}
use Rattle.meaning.specs.Steps.{outcome, at_limit, one_more_of, repeated_step}
use Rattle.steps.specs.Rewriting.{with_clauses}
use Rattle.steps.specs.Rooms.{room_of}
use Rattle.steps.specs.Subsumption.{subsumed_once, subsumption, SubsumptionRuns}
use Rattle.steps.proofs.Subsumed.{subsumption_keeps}
use Rattle.rules.specs.Answering.{Went}
use Rattle.rules.proofs.Holding.{framed}
use Rattle.rules.proofs.Stepping.{went_exactly}
use Rattle.subsumption.proofs.Passing.{fits_always}

module _ {V : Type 0} (s : Sheet V) where
  -- the sheet with the clauses that a run on clauses leaves
  abbrev on_sheet : Outcome (List Clause) → Outcome (Sheet V)
  on_sheet o = outcome o.steps o.ending (with_clauses s o.left)

  at_limit_lem : (cs : List Clause) (next : Option (List Clause)) → at_limit (with_clauses s cs) (option_map (with_clauses s) next) ≡ on_sheet (at_limit cs next)
  at_limit_lem cs None = refl
  at_limit_lem cs (Some ds) = refl

  one_more : (cs : List Clause) (rest : Sheet V → Outcome (Sheet V)) (rest' : List Clause → Outcome (List Clause)) → ((ds : List Clause) → rest (with_clauses s ds) ≡ on_sheet (rest' ds))
      → (next : Option (List Clause)) → one_more_of (with_clauses s cs) true rest (option_map (with_clauses s) next) ≡ on_sheet (one_more_of cs true rest' next)
  one_more cs rest rest' same None = refl
  one_more cs rest rest' same (Some ds) = ap (λ o. outcome (1 + o.steps) o.ending o.left) (same ds)

  pub run_lifted : (n : ℕ) (cs : List Clause) → repeated_step subsumption (λ t. true) n (with_clauses s cs) ≡ on_sheet (repeated_step subsumed_once fits_always n cs)
  unfolding subsumption
  run_lifted zero cs = at_limit_lem cs (subsumed_once cs)
  run_lifted (suc n) cs = one_more cs (repeated_step subsumption (λ t. true) n) (repeated_step subsumed_once fits_always n) (run_lifted n) (subsumed_once cs)

-- buffers with another sheet
abbrev pub with_sheet : {W : Type 0} → Lent W → List ℕ → ℕ → Lent W
with_sheet b sheet fill = record { sheet = sheet; row = b.row; stack = b.stack; weights = b.weights; marks = record { sheet = fill; stack = b.marks.stack }; counts = b.counts }

module _ {W : Type 0} (m : Ghosts W) (laws : Lawful m.kind) (b : Lent W) (before : HoldsTogether m at_work b) (limit : ℕ) (sheet : List ℕ) (fill : ℕ) (r : Report)
    (long : length sheet ≡ length b.sheet) (shrinks : fill ≤ b.marks.sheet) (laid : Laid (take fill sheet))
    (exact : outcome r.steps r.ending (clauses (take fill sheet)) ≡ repeated_step subsumed_once fits_always limit (used_clauses b)) where
  ran_so : outcome r.steps r.ending (decoded m (with_sheet b sheet fill)) ≡ repeated_step subsumption (λ t. true) limit (decoded m b)
  unfolding decoded
  ran_so = ap (on_sheet (decoded m b)) exact ∙ sym (run_lifted (decoded m b) limit (used_clauses b))

  pub subsumption_went : Went m (λ room. SubsumptionRuns) limit b (with_sheet b sheet fill) r
  unfolding SubsumptionRuns
  subsumption_went =
      let frame = framed m b before in
      let bound = frame.sheet.bound in
      let fits = frame.sheet.length in
      let room : room_of (with_sheet b sheet fill) ≡ room_of b = ap (λ n. record { sheet = min n 32768; stack = min (length b.stack) 32768 }) long in
      went_exactly m laws subsumption (λ room t. true) (λ room. subsumption_keeps laws) limit b (with_sheet b sheet fill) r before
      (record { sheet = record { bound = omega arith; length = omega arith }; laid = laid; row = frame.row; stack = frame.stack; stacked = frame.stacked; weights = frame.weights })
      (record { counts = refl; room = room; behind = refl }) ran_so
