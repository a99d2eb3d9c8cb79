-- The two words of an item, and values with a literal made true. Assumes nothing.
use Rattle.std.proofs.Common.{◌≡◌, ℕ, ◌<◌, true, cond, not, eqb, ◌⊎◌, refl, ap, ◌∙◌, inl, inr, arith}
use Rattle.std.proofs.lemmas.Bool.Decides.{nat_tests}
use Rattle.std.proofs.lemmas.Bool.{cases_lt, cases_eq, cond-true, eq-eqb, le-leb, lt-leb}
use Rattle.sheet.specs.Literals.{item_of, denied, opposite}
use Rattle.meaning.specs.Answers.{Values, is_true}
use Rattle.meaning.specs.Unwinding.{made_true}
use Rattle.meaning.proofs.Mending.{made_other}

pub opposite_item : (w : ℕ) → w < 65536 → item_of (opposite w) ≡ item_of w
opposite_item w word = grind (arith, nat_tests)

pub opposite_opposite : (w : ℕ) → w < 65536 → opposite (opposite w) ≡ w
opposite_opposite w word = grind (arith, nat_tests)

pub opposite_differs : (w : ℕ) → w < 65536 → opposite w ≡ w → ⊥
opposite_differs w word same = grind (arith, nat_tests)

-- an item has no third word
pub same_item : (u w : ℕ) → u < 65536 → w < 65536 → item_of u ≡ item_of w → (u ≡ w) ⊎ (u ≡ opposite w)
same_item u w word other same = elim (cases_eq u w) [ inl is ↦ inl is | inr differs ↦ inr (grind (arith, nat_tests)) ]

-- Literals are true by the value of their item.

pub true_alike : (u v : Values) (w : ℕ) → u (item_of w) ≡ v (item_of w) → is_true u w ≡ is_true v w
true_alike u v w same = ap (λ b. cond (denied w) (not b) b) same

made_here : (v : Values) (w : ℕ) → made_true v w (item_of w) ≡ not (denied w)
made_here v w = cond-true (eqb (item_of w) (item_of w)) _ _ (eq-eqb (item_of w) (item_of w) refl)

pub made_true_lem : (v : Values) (w : ℕ) → is_true (made_true v w) w ≡ true
made_true_lem v w = rw (made_here v w) (elim (cases_lt w 32768) [
  | inl plain ↦ rw (lt-leb 32768 w plain)
  | inr past ↦ rw (le-leb 32768 w past)
])

pub made_true_other : (v : Values) (w u : ℕ) → (item_of u ≡ item_of w → ⊥) → is_true (made_true v w) u ≡ is_true v u
made_true_other v w u other = true_alike (made_true v w) v u (made_other v w (item_of u) other)

-- a true literal stays true where another than its denial is made true
pub made_keeps : (v : Values) (w u : ℕ) → w < 65536 → u < 65536 → (u ≡ opposite w → ⊥) → is_true v u ≡ true → is_true (made_true v w) u ≡ true
made_keeps v w u word other apart is = elim (cases_eq (item_of u) (item_of w)) [
  | inl same ↦ elim (same_item u w other word same) [
    | inl itself ↦ rw itself (made_true_lem v w)
    | inr denial ↦ absurd (apart denial)
  ]
  | inr differs ↦ made_true_other v w u differs ∙ is
]
