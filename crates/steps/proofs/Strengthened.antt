-- Self-subsuming resolution keeps every answer: the shortened clause is the resolvent of two clauses, and it has only literals of the first. Assumes nothing.
use Rattle.std.proofs.Common.{◌≡◌, ℕ, true, List, [], ◌∷◌, ◌++◌, sym, refl, ap, ◌∙◌, subst, inl, inr}
use Rattle.std.proofs.lemmas.Bool.{and_parts, cases_eq, not-true}
use Rattle.weight.specs.Kind.{Kind, Lawful}
use Rattle.sheet.specs.declared.row.Item.{Item}
use Rattle.sheet.specs.Literals.{opposite, has}
use Rattle.sheet.specs.Clauses.{Clause}
use Rattle.sheet.specs.Records.{Record}
use Rattle.sheet.specs.Sheets.{Sheet}
use Rattle.meaning.specs.Answers.{Values, is_true, met}
use Rattle.meaning.specs.Running.{Holds}
use Rattle.meaning.proofs.Truth.{opposite_true}
use Rattle.steps.specs.Places.{some, first_made, first_word}
use Rattle.steps.specs.Rewriting.{inside, is_other, but, lacking, plain_lit, with_clauses}
use Rattle.steps.specs.Strengthening.{yields, may_leave, strengthened, strengthening}
use Rattle.steps.specs.Keeping.{KeepsMeaning, KeepsPayable}
use Rattle.steps.proofs.Members.{In, Parts, in_middle, in_others, middle_or_others, part_in, others_in, some_in, has_in, inside_in, in_but, in_but_from}
use Rattle.steps.proofs.Placing.{mapped_at, made_place, word_place}
use Rattle.steps.proofs.Opposites.{opposite_opposite}
use Rattle.steps.proofs.Meeting.{met_by, met_from, true_differs, met_carried, met_inside, each_with}
use Rattle.steps.proofs.Holding.{ClauseHolds, clause_holds, word_in, one_sign_in, kept_holds}
use Rattle.steps.proofs.Exacts.{Exact, exact_clauses, IsExact, exact_keeps, exact_payable}

-- Where the denial of w is true, w is false, and another literal of c is true. Else d has another true literal, which is one of c.
strengthened_met : (row : List Item) (v : Values) (c d : Clause) (w : ℕ) → ClauseHolds row c → ClauseHolds row d → In w c.lits → yields c w d ≡ true → met v c.lits ≡ true → met v d.lits ≡ true → met v (but w c.lits) ≡ true
strengthened_met row v c d w c_holds d-holds among does c_met d-met =
    let word = word_in c_holds w among in
    let parts = and_parts (has (opposite w) d.lits) (inside (but (opposite w) d.lits) c.lits) does in
    let denial = has_in (opposite w) d.lits parts.0 in
    let by = met_by v d.lits d-met in
    let u : ℕ = by.0 in
    elim (cases_eq u (opposite w)) [
      | inl is ↦
          let fails = not-true (is_true v w) (sym (opposite_true v w word) ∙ ap (is_true v) (sym is) ∙ by.2) in
          met_carried v v c.lits (but w c.lits) c_met (λ x there so. (in_but_from x w c.lits there (true_differs v x w so fails), so))
      | inr other ↦
          let there = inside_in (but (opposite w) d.lits) c.lits parts.1 u (in_but_from u (opposite w) d.lits by.1 other) in
          let apart : u ≡ w → ⊥ = λ same. one_sign_in d-holds (opposite w) denial (subst (λ x. In x d.lits) (same ∙ sym (opposite_opposite w word)) by.1) in
          met_from v u (but w c.lits) (in_but_from u w c.lits there apart) by.2
    ]

module _ {V : Type 0} (k : Kind V) where
  shorter_exact : (s : Sheet V) (before : List Clause) (c : Clause) (rest : List Clause) → Parts before c rest s.clauses → (w : ℕ) → In w c.lits → may_leave s.row s.clauses c w ≡ true → Holds k s → Exact s (with_clauses s (before ++ lacking w c ∷ rest)) []
  shorter_exact s before c rest parts w among may holds =
      let by = some_in (yields c w) s.clauses (and_parts (plain_lit s.row w) (some (yields c w) s.clauses) may).1 in
      let d = by.0 in
      let c_in = part_in parts in
      let c_holds = clause_holds holds c c_in in
      exact_clauses s (before ++ lacking w c ∷ rest)
      (λ x here. elim (middle_or_others x (lacking w c) before rest here) [
        | inl is ↦ subst (ClauseHolds s.row) is (kept_holds s.row (is_other w) c c_holds)
        | inr other ↦ clause_holds holds x (others_in parts x other)
      ])
      (λ v each. each_with v (record { is = refl })
      (strengthened_met s.row v c d w c_holds (clause_holds holds d by.1) among by.2 (each c c_in) (each d by.1))
      (λ x other. each x (others_in parts x other)))
      (λ v each. each_with v parts
      (met_inside v (but w c.lits) c.lits (λ u there. (in_but u w c.lits there).0) (each (lacking w c) (in_middle (lacking w c) before rest)))
      (λ x other. each x (in_others x (lacking w c) before rest other)))

  strengthening_exact : IsExact k strengthening (λ t. true)
  unfolding strengthening
  strengthening_exact s t step fits holds =
      let row = s.row in
      let all = s.clauses in
      mapped_at (λ u. (news : List Record) × Exact s u news) (with_clauses s) (first_made (strengthened row all) [] all) t step (λ cs found.
      let place = made_place (strengthened row all) cs all found in
      let c = place.clause in
      mapped_at (λ ds. (news : List Record) × Exact s (with_clauses s ds) news) (λ w. place.before ++ lacking w c ∷ place.rest) (first_word (may_leave row all c) c.lits) cs place.makes (λ w first.
      let is = word_place (may_leave row all c) c.lits w first in
      ([], shorter_exact s place.before c place.rest (record { is = place.parts }) w is.0 is.1 holds)))

pub strengthening_keeps : {V : Type 0} {k : Kind V} → Lawful k → KeepsMeaning k strengthening (λ t. true)
strengthening_keeps {k = k} laws = exact_keeps k strengthening (λ t. true) laws (strengthening_exact k)

pub strengthening_pays : {V : Type 0} (k : Kind V) → KeepsPayable k strengthening (λ t. true)
strengthening_pays k = exact_payable k strengthening (λ t. true) (strengthening_exact k)
