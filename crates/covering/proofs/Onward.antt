-- The search goes on behind the label that was covered: no lower label becomes covered by that. Assumes nothing.
use Rattle.std.proofs.Common.{◌≡◌, ℕ, zero, suc, ◌+◌, ◌-◌, ◌<◌, ◌≤◌, Bool, true, false, cond, not, ◌&&◌, ◌||◌, eqb, List, [], ◌∷◌, map, length, is_some, Some, None, sym, refl, ap, ◌∙◌, subst, ap₂, inl, inr, add-one, arith}
use Rattle.std.proofs.lemmas.List.{length-set}
use Rattle.std.proofs.lemmas.Bool.{and_cases, and_left, both_ways, cases_Bool, cases_eq, cases_lt, cond-false, cond-true, eqb-true, ne_eqb}
use Rattle.weight.specs.Kind.{Kind}
use Rattle.sheet.specs.Clauses.{Clause}
use Rattle.sheet.specs.Literals.{has}
use Rattle.sheet.specs.Rows.{live_at, item_at}
use Rattle.sheet.specs.Sheets.{Sheet}
use Rattle.sheet.specs.declared.row.Standing.TheVariants.{Covered}
use Rattle.steps.specs.Covering.{covers, covered_out, is_covered, stands}
use Rattle.steps.specs.Places.{every, lowest_item, nameable}
use Rattle.steps.specs.Rewriting.{but, is_payable, lacking, payable_at}
use Rattle.steps.proofs.Aging.{retired_here, retired_other}
use Rattle.steps.proofs.Placing.{not_none}
use Rattle.covering.specs.Labels.{NoneBelow}
use Rattle.covering.proofs.Coverings.{no_label, not_covered}
use Rattle.covering.proofs.Searches.{lowest_none, lowest_more}

-- A search for the lowest item, by the items that fail.

module _ (test : ℕ → Bool) where
  one_less : (end i : ℕ) → test i ≡ false → lowest_item test (suc i) (end - suc i) ≡ lowest_item test i (end - i)
  one_less end i fails = elim (cases_lt i end) [
    | inl within ↦ subst (λ j. lowest_item test j (end - j) ≡ lowest_item test i (end - i)) (add-one i) (lowest_more test end i within fails)
    | inr past ↦ lowest_none test end (suc i) (omega arith) ∙ sym (lowest_none test end i past)
  ]

  -- it may begin behind items that fail
  pub lowest_onward : (end i : ℕ) → 1 ≤ i → NoneBelow test i → lowest_item test i (end - i) ≡ lowest_item test 1 (end - 1)
  lowest_onward end zero low none = absurd (omega arith)
  lowest_onward end (suc zero) low none = refl
  lowest_onward end (suc (suc i)) low none = one_less end (suc i) (none (suc i) (omega arith) (omega arith)) ∙ lowest_onward end (suc i) (omega arith) (λ j first less. none j first (omega arith))

  -- all below the one that is found fail
  pub lowest_first : (n i l : ℕ) → lowest_item test i n ≡ Some l → (j : ℕ) → i ≤ j → j < l → test j ≡ false
  lowest_first zero i l found j from less = absurd (not_none found)
  lowest_first (suc n) i l found j from less = elim (cases_Bool (test i)) [
    | inl passes ↦
        let here : Some i ≡ Some l = sym (cond-true (test i) (Some i) (lowest_item test (suc i) n) passes) ∙ found in
        let same : i ≡ l = cc in
        absurd (omega arith)
    | inr fails ↦ elim (cases_eq j i) [
      | inl same ↦ ap test same ∙ fails
      | inr other ↦ lowest_first n (suc i) l (sym (cond-false (test i) (Some i) (lowest_item test (suc i) n) fails) ∙ found) j (omega arith) less
    ]
  ]

  -- none is found exactly where all fail
  pub all_fail : (n i : ℕ) → is_some (lowest_item test i n) ≡ false → (j : ℕ) → i ≤ j → j < i + n → test j ≡ false
  all_fail zero i none j from less = absurd (omega arith)
  all_fail (suc n) i none j from less = elim (cases_Bool (test i)) [
    | inl passes ↦ absurd (both_ways true (sym (ap is_some (cond-true (test i) (Some i) (lowest_item test (suc i) n) passes)) ∙ none) refl)
    | inr fails ↦ elim (cases_eq j i) [
      | inl same ↦ ap test same ∙ fails
      | inr other ↦ all_fail n (suc i) (sym (ap is_some (cond-false (test i) (Some i) (lowest_item test (suc i) n) fails)) ∙ none) j (omega arith) (omega arith)
    ]
  ]

  pub none_passes : (n i : ℕ) → ((j : ℕ) → i ≤ j → j < i + n → test j ≡ false) → lowest_item test i n ≡ None
  none_passes zero i fail = refl
  none_passes (suc n) i fail = cond-false (test i) _ _ (fail i (omega arith) (omega arith)) ∙ none_passes n (suc i) (λ j from less. fail j (omega arith) (omega arith))

-- Clauses without a label, by other items.

has_but : (l j : ℕ) (ws : List ℕ) → (j ≡ l → ⊥) → has j (but l ws) ≡ has j ws
has_but l j [] other = refl
has_but l j (w ∷ ws) other = elim (cases_Bool (eqb w l)) [
  | inl same ↦
      let is = eqb-true w l same in
      ap (λ b. has j (cond (not b) (w ∷ but l ws) (but l ws))) same ∙ has_but l j ws other
      ∙ sym (ap (λ b. b || has j ws) (ne_eqb w j (λ at. other (sym at ∙ is))))
  | inr apart ↦ ap (λ b. has j (cond (not b) (w ∷ but l ws) (but l ws))) apart ∙ ap (λ b. eqb w j || b) (has_but l j ws other)
]

module _ {V : Type 0} (k : Kind V) (l : ℕ) where
  every_but : (j m : ℕ) → (j ≡ l → ⊥) → (m ≡ l → ⊥) → (cs : List Clause) → every (stands j m) (map (lacking l) cs) ≡ every (stands j m) cs
  every_but j m other another [] = refl
  every_but j m other another (c ∷ cs) =
      ap₂ (λ (x y : Bool). x && y)
      (ap₂ (λ (x y : Bool). not x || y) (has_but l j c.lits other) (has_but l m c.lits another))
      (every_but j m other another cs)

  module _ (s : Sheet V) (live : live_at s.row l ≡ true) where
    abbrev t : Sheet V
    t = covered_out k s l

    items : length t.row ≡ length s.row
    items = length-set s.row _ _

    gone : payable_at t.row l ≡ false
    gone = ap (λ x. is_payable x.standing) (retired_here s.row l Covered live)

    same_item : (j : ℕ) → (j ≡ l → ⊥) → item_at t.row j ≡ item_at s.row j
    same_item j other = retired_other s.row l Covered live j other

    covers_other : (j m : ℕ) → (j ≡ l → ⊥) → (m ≡ l → ⊥) → covers k t j m ≡ covers k s j m
    covers_other j m other another =
        let it = same_item j other in
        let that = same_item m another in
        let clauses = every_but j m other another s.clauses in
        rw (it, that, clauses)

    still_uncovered : (j : ℕ) → (j ≡ l → ⊥) → is_covered k s j ≡ false → is_covered k t j ≡ false
    still_uncovered j other uncovered = elim (and_cases (payable_at s.row j) _ uncovered) [
      | inl plain ↦ no_label k t j (ap (λ x. is_payable x.standing) (same_item j other) ∙ plain)
      | inr none ↦
          let count : nameable (length t.row) ≡ nameable (length s.row) = ap nameable items in
          not_covered k t j (ap (lowest_item (covers k t j) 1) count ∙ none_passes (covers k t j) (nameable (length s.row)) 1 (λ m from less. elim (cases_eq m l) [
            | inl same ↦ ap (λ x. covers k t j x) same ∙ and_left (payable_at t.row l) _ gone
            | inr another ↦ covers_other j m other another ∙ all_fail (covers k s j) (nameable (length s.row)) 1 none m from less
          ]))
    ]

    pub none_below_after : NoneBelow (is_covered k s) l → NoneBelow (is_covered k t) (l + 1)
    none_below_after none j first less = elim (cases_eq j l) [
      | inl same ↦ ap (is_covered k t) same ∙ no_label k t l gone
      | inr other ↦ still_uncovered j other (none j first (omega arith))
    ]
