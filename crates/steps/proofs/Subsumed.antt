-- Subsumption keeps every answer: a clause that has all the literals of another is met wherever that one is. Assumes nothing.
use Rattle.std.proofs.Common.{◌≡◌, true, not, List, [], ◌++◌, subst, inl, inr}
use Rattle.std.proofs.lemmas.Bool.{and_parts, or_cases}
use Rattle.weight.specs.Kind.{Kind, Lawful}
use Rattle.sheet.specs.Clauses.{Clause}
use Rattle.sheet.specs.Records.{Record}
use Rattle.sheet.specs.Sheets.{Sheet}
use Rattle.meaning.specs.Running.{Holds}
use Rattle.steps.specs.Places.{some}
use Rattle.steps.specs.Rewriting.{inside, with_clauses}
use Rattle.steps.specs.Subsumption.{under, strictly_under, is_subsumed, without_subsumed, subsumed_once, subsumption}
use Rattle.steps.specs.Keeping.{KeepsMeaning, KeepsPayable}
use Rattle.steps.proofs.Members.{In, Parts, in_left, in_right, others_in, some_in, inside_in}
use Rattle.steps.proofs.Placing.{mapped_at, when_true, made_place}
use Rattle.steps.proofs.Meeting.{met_inside, each_with}
use Rattle.steps.proofs.Holding.{clause_holds}
use Rattle.steps.proofs.Exacts.{Exact, exact_clauses, IsExact, exact_keeps, exact_payable}

-- one of the others has only literals of c
subsuming : (before : List Clause) (c : Clause) (rest : List Clause) → is_subsumed before c rest ≡ true → (d : Clause) × In d (before ++ rest) × (inside d.lits c.lits ≡ true)
subsuming before c rest is = elim (or_cases (some (under c) before) (some (strictly_under c) rest) is) [
  | inl earlier ↦ let found = some_in (under c) before earlier in (found.0, in_left found.0 before rest found.1, found.2)
  | inr later ↦
      let found = some_in (strictly_under c) rest later in
      let d = found.0 in
      (d, in_right d before rest found.1, (and_parts (inside d.lits c.lits) (not (inside c.lits d.lits)) found.2).0)
]

module _ {V : Type 0} (k : Kind V) where
  without_exact : (s : Sheet V) (before : List Clause) (c : Clause) (rest : List Clause) → Parts before c rest s.clauses → is_subsumed before c rest ≡ true → Holds k s → Exact s (with_clauses s (before ++ rest)) []
  without_exact s before c rest parts is holds =
      let by = subsuming before c rest is in
      let d = by.0 in
      exact_clauses s (before ++ rest)
      (λ x among. clause_holds holds x (others_in parts x among))
      (λ v each x among. each x (others_in parts x among))
      (λ v others. each_with v parts (met_inside v d.lits c.lits (inside_in d.lits c.lits by.2) (others d by.1)) others)

  subsumption_exact : IsExact k subsumption (λ t. true)
  unfolding subsumption
  subsumption_exact s t step fits holds = mapped_at (λ u. (news : List Record) × Exact s u news) (with_clauses s) (subsumed_once s.clauses) t step (λ cs found.
      let place = made_place without_subsumed cs s.clauses found in
      let is = when_true (is_subsumed place.before place.clause place.rest) (place.before ++ place.rest) cs place.makes in
      ([], subst (λ ds. Exact s (with_clauses s ds) []) is.1 (without_exact s place.before place.clause place.rest (record { is = place.parts }) is.0 holds)))

pub subsumption_keeps : {V : Type 0} {k : Kind V} → Lawful k → KeepsMeaning k subsumption (λ t. true)
subsumption_keeps {k = k} laws = exact_keeps k subsumption (λ t. true) laws (subsumption_exact k)

pub subsumption_pays : {V : Type 0} (k : Kind V) → KeepsPayable k subsumption (λ t. true)
subsumption_pays k = exact_payable k subsumption (λ t. true) (subsumption_exact k)
