-- Both signs of an item in ascending literals, found by a merge of the plain and the denied ones. Assumes nothing.
use Rattle.std.proofs.Common.{◌≡◌, ℕ, zero, suc, ◌+◌, ◌-◌, ◌<◌, ◌≤◌, true, false, ◌⊎◌, List, [], ◌∷◌, length, get_or, sym, refl, inl, inr, arith}
use Rattle.std.proofs.ByRecursion.{All-get_or, All-from_get_or}
use Rattle.std.proofs.lemmas.Bool.{both_ways, cases_lt, cond-false, cond-true, eq-eqb, le-leb, lt-leb, ne_eqb, or_from, or_left, or_right}
use Rattle.sheet.specs.Literals.{Rising, denied, has, opposite}
use Rattle.sheet.specs.ClauseSteps.{OneSign, Parted}
use Rattle.sheet.proofs.Rises.{rising_from}

pub has_place : (w : ℕ) (ws : List ℕ) (k : ℕ) → k < length ws → get_or ws k 0 ≡ w → has w ws ≡ true
has_place w [] k inside is = absurd (omega arith)
has_place w (x ∷ xs) zero inside is = or_left _ _ (eq-eqb x w is)
has_place w (x ∷ xs) (suc k) inside is = or_right _ _ (has_place w xs k (omega arith) is)

pub has_none : (w : ℕ) (ws : List ℕ) → ((k : ℕ) → k < length ws → get_or ws k 0 ≡ w → ⊥) → has w ws ≡ false
has_none w [] none = refl
has_none w (x ∷ xs) none = or_from _ _ (ne_eqb x w (none 0 (omega arith))) (has_none w xs (λ k inside. none (suc k) (omega arith)))

pub opposite_plain : (w : ℕ) → w < 32768 → opposite w ≡ w + 32768
opposite_plain w plain = cond-false (denied w) (w - 32768) (w + 32768) (lt-leb 32768 w plain)

pub opposite_denied : (w : ℕ) → 32768 ≤ w → opposite w ≡ w - 32768
opposite_denied w past = cond-true (denied w) (w - 32768) (w + 32768) (le-leb 32768 w past)

-- Merged up to the plain literal i and the denied literal j: no item passed so far stands on both sides.
pub record Merged (ws : List ℕ) (split i j : ℕ) : Type 0 where
  pub left : i ≤ split
  pub right : split ≤ j
  pub inside : j ≤ length ws
  pub apart : (p d : ℕ) → p < split → split ≤ d → d < length ws → (p < i) ⊎ (d < j) → get_or ws p 0 + 32768 ≡ get_or ws d 0 → ⊥

module _ {ws : List ℕ} {split i j : ℕ} (rising : Rising ws) (parted : Parted ws split) (merged : Merged ws split i j) (left : i < split) (inside : j < length ws) where
  -- the plain literal is the lower
  pub merged_plain : get_or ws i 0 + 32768 < get_or ws j 0 → Merged ws split (i + 1) j
  merged_plain below = record {
    left = omega arith;
    right = merged.right;
    inside = merged.inside;
    apart = λ p d p-left d-right d-inside passed is. elim (cases_lt d j) [
      | inl before ↦ merged.apart p d p-left d-right d-inside (inr before) is
      | inr from ↦ elim passed [
        | inl upto ↦ omega (arith, rising_from ws rising p i (omega arith) (omega arith), rising_from ws rising j d from d-inside)
        | inr before ↦ omega arith
      ]
    ];
  }

  -- the denied literal is the lower
  pub merged_denied : get_or ws j 0 < get_or ws i 0 + 32768 → Merged ws split i (j + 1)
  merged_denied above = record {
    left = merged.left;
    right = omega arith;
    inside = omega arith;
    apart = λ p d p-left d-right d-inside passed is. elim (cases_lt p i) [
      | inl before ↦ merged.apart p d p-left d-right d-inside (inl before) is
      | inr from ↦ elim passed [
        | inl before ↦ omega arith
        | inr upto ↦ omega (arith, rising_from ws rising i p from (omega arith), rising_from ws rising d j (omega arith) inside)
      ]
    ];
  }

  pub merged_both : get_or ws i 0 + 32768 ≡ get_or ws j 0 → OneSign ws → ⊥
  merged_both is one =
      let w = get_or ws i 0 in
      let alone = All-get_or (λ w. has (opposite w) ws ≡ false) ws i 0 (omega arith) one in
      both_ways (has (w + 32768) ws) (rw (opposite_plain w (parted.plain i left)) at alone) (has_place (w + 32768) ws j inside (sym is))

module _ {ws : List ℕ} {split i j : ℕ} (parted : Parted ws split) (merged : Merged ws split i j) (end : (split ≤ i) ⊎ (length ws ≤ j)) where
  all_apart : (p d : ℕ) → p < split → split ≤ d → d < length ws → get_or ws p 0 + 32768 ≡ get_or ws d 0 → ⊥
  all_apart p d p-left d-right d-inside = merged.apart p d p-left d-right d-inside (elim end [ inl h ↦ inl (omega arith) | inr h ↦ inr (omega arith) ])

  plain_alone : (k : ℕ) → k < split → has (opposite (get_or ws k 0)) ws ≡ false
  plain_alone k left = rw (opposite_plain (get_or ws k 0) (parted.plain k left)) (has_none (get_or ws k 0 + 32768) ws (λ m inside is. elim (cases_lt m split) [
    | inl before ↦ omega (arith, parted.plain m before)
    | inr from ↦ all_apart k m left from inside (sym is)
  ]))

  denied_alone : (k : ℕ) → split ≤ k → k < length ws → get_or ws k 0 < 65536 → has (opposite (get_or ws k 0)) ws ≡ false
  denied_alone k right k-inside word =
      let past = parted.denied k right k-inside in
      rw (opposite_denied (get_or ws k 0) past) (has_none (get_or ws k 0 - 32768) ws (λ m inside is. elim (cases_lt m split) [
        | inl before ↦ all_apart m k before right k-inside (omega arith)
        | inr from ↦ omega (arith, parted.denied m from inside)
      ]))

  pub merged_all : ((k : ℕ) → get_or ws k 0 < 65536) → OneSign ws
  merged_all words = All-from_get_or (λ w. has (opposite w) ws ≡ false) ws 0 (λ k inside. elim (cases_lt k split) [
    | inl left ↦ plain_alone k left
    | inr right ↦ denied_alone k right inside (words k)
  ])
