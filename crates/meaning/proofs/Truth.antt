-- When literals are true, and clauses met. Assumes nothing.
use Rattle.std.proofs.Common.{◌≡◌, ℕ, ◌+◌, ◌-◌, ◌<◌, true, false, not, ◌&&◌, List, [], ◌∷◌, ◌++◌, sym, refl, ap, ◌∙◌, inl, inr, arith}
use mathlib.Core.Bool.{and_assoc, not-not}
use Rattle.std.specs.List.{AllByRecursion}
use Rattle.std.proofs.lemmas.Bool.{both_ways, cases_Bool, cases_lt, lt-leb, le-leb, or_parts, or_from}
use Rattle.sheet.specs.Literals.{item_of, denied, opposite, has}
use Rattle.sheet.specs.Clauses.{Clause}
use Rattle.meaning.specs.Answers.{Values, is_true, met, kept_as, meets_all}
use Rattle.meaning.specs.Calls.{clashes, tautology}
use Rattle.meaning.proofs.Inserting.{has_all}

pub affirmed_true : (v : Values) (i : ℕ) → i < 32768 → is_true v i ≡ v i
affirmed_true v i low =
    let sign : denied i ≡ false = lt-leb 32768 i low in
    let item : item_of i ≡ i = omega arith in
    rw (sign, item)

pub denied_true : (v : Values) (i : ℕ) → i < 32768 → is_true v (32768 + i) ≡ not (v i)
denied_true v i low =
    let sign : denied (32768 + i) ≡ true = le-leb 32768 (32768 + i) (omega arith) in
    let item : item_of (32768 + i) ≡ i = omega arith in
    rw (sign, item)

pub opposite_true : (v : Values) (w : ℕ) → w < 65536 → is_true v (opposite w) ≡ not (is_true v w)
opposite_true v w word = elim (cases_lt w 32768) [
  | inl low ↦
      let sign : denied w ≡ false = lt-leb 32768 w low in
      let other : denied (w + 32768) ≡ true = le-leb 32768 (w + 32768) (omega arith) in
      let item : item_of (w + 32768) ≡ item_of w = omega arith in
      rw (sign, other, item)
  | inr high ↦
      let sign : denied w ≡ true = le-leb 32768 w high in
      let other : denied (w - 32768) ≡ false = lt-leb 32768 (w - 32768) (omega arith) in
      let item : item_of (w - 32768) ≡ item_of w = omega arith in
      rw (sign, other, item) (sym (not-not (v (item_of w))))
]

pub all_false : (v : Values) (ws : List ℕ) → met v ws ≡ false → AllByRecursion (λ w. is_true v w ≡ false) ws
all_false v [] unmet = tt
all_false v (w ∷ ws) unmet = let parts = or_parts (is_true v w) (met v ws) unmet in (parts.0, all_false v ws parts.1)

-- where all are false, none has its opposite among them
false_apart : (v : Values) (all ws : List ℕ) → AllByRecursion (λ w. is_true v w ≡ false) all → AllByRecursion (λ w. w < 65536) ws → AllByRecursion (λ w. is_true v w ≡ false) ws → clashes all ws ≡ false
false_apart v all [] none words no_one = refl
false_apart v all (w ∷ ws) none words no_one =
    or_from (has (opposite w) all) (clashes all ws)
    (elim (cases_Bool (has (opposite w) all)) [
      | inl there ↦ absurd (both_ways (is_true v (opposite w)) (has_all _ (opposite w) all there none) (opposite_true v w words.0 ∙ ap not no_one.0))
      | inr apart ↦ apart
    ])
    (false_apart v all ws none words.1 no_one.1)

pub tautology_met : (v : Values) (ws : List ℕ) → AllByRecursion (λ w. w < 65536) ws → tautology ws ≡ true → met v ws ≡ true
tautology_met v ws words both = elim (cases_Bool (met v ws)) [
  | inl is ↦ is
  | inr unmet ↦ let none = all_false v ws unmet in absurd (both_ways (tautology ws) (false_apart v ws ws none words none) both)
]

pub meets_append : (v : Values) (xs ys : List Clause) → meets_all v (xs ++ ys) ≡ (meets_all v xs && meets_all v ys)
meets_append v [] ys = refl
meets_append v (c ∷ cs) ys = ap (λ x. kept_as c.tag (met v c.lits) && x) (meets_append v cs ys) ∙ sym (and_assoc (kept_as c.tag (met v c.lits)) (meets_all v cs) (meets_all v ys))
