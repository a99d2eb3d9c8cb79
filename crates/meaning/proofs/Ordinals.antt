-- Labels by their ordinals. Assumes nothing.
use Rattle.std.proofs.Common.{◌≡◌, ℕ, zero, suc, ◌<◌, true, List, [], ◌∷◌, length, get_or, sym, refl, ap, arith}
use Rattle.std.specs.List.{AllByRecursion}
use Rattle.std.proofs.ByRecursion.{All-get_or}
use Rattle.std.proofs.lemmas.Bool.{both_ways, cond_both}
use Rattle.sheet.specs.declared.row.Item.{Item}
use Rattle.sheet.specs.declared.row.Standing.{Standing}
use Rattle.sheet.specs.declared.row.Standing.TheVariants.{Plain, Label, Fixed, Covered, Forced}
use Rattle.sheet.specs.Rows.{is_label, absent, item_at, label_at, label_ordinals}
use Rattle.sheet.specs.Sheets.{Sheet}
use Rattle.sheet.specs.Together.{Distinct, OrdinalOf}
use Rattle.meaning.proofs.Places.{item_inside}

-- what holds of the ordinals of a row, and of a list without its first, holds of those of the rest
ordinals_rest : (P : List ℕ → Type 0) → ((n : ℕ) (ns : List ℕ) → P (n ∷ ns) → P ns) → (x : Item) (xs : List Item) → P (label_ordinals (x ∷ xs)) → P (label_ordinals xs)
ordinals_rest P rest x xs = cond_both (is_label x.standing) (x.ordinal ∷ label_ordinals xs) (label_ordinals xs) (λ ns. P ns → P (label_ordinals xs)) (λ is. rest x.ordinal (label_ordinals xs)) (λ is is-so. is-so)

-- What holds of each label's ordinal, in the list and by places.

module _ (P : ℕ → Type 0) where
  ordinal_from : (row : List Item) → AllByRecursion P (label_ordinals row) → (j : ℕ) → is_label (get_or row j absent).standing ≡ true → P (get_or row j absent).ordinal
  ordinal_from [] each j label = absurd (both_ways _ refl label)
  ordinal_from (x ∷ xs) each zero label = let first = rw label at each in first.0
  ordinal_from (x ∷ xs) each (suc j) label = ordinal_from xs (ordinals_rest (AllByRecursion P) (λ n ns all. all.1) x xs each) j label

  ordinals_from : (row : List Item) → ((j : ℕ) → is_label (get_or row j absent).standing ≡ true → P (get_or row j absent).ordinal) → AllByRecursion P (label_ordinals row)
  ordinals_from [] each = tt
  ordinals_from (x ∷ xs) each =
      let rest = ordinals_from xs (λ j. each (suc j)) in
      cond_both (is_label x.standing) (x.ordinal ∷ label_ordinals xs) (label_ordinals xs) (AllByRecursion P) (λ label. (each 0 label, rest)) (λ other. rest)

pub label_ranged : (n : ℕ) (row : List Item) → AllByRecursion (λ x. OrdinalOf n x.standing x.ordinal) row → (i : ℕ) → label_at row i ≡ true → (item_at row i).ordinal < n
label_ranged n row ranged zero label = absurd (both_ways _ refl label)
label_ranged n row ranged (suc j) label = below (item_at row (suc j)).standing _ label (All-get_or _ row j absent (item_inside is_label refl row (suc j) label) ranged)
  where
    below : (x : Standing) (o : ℕ) → is_label x ≡ true → OrdinalOf n x o → o < n
    below Plain o label is = absurd (both_ways _ refl label)
    below Label o label is = is
    below Fixed o label is = absurd (both_ways _ refl label)
    below Covered o label is = is
    below Forced o label is = is

-- Labels with the same ordinal are the same item.

apart_from : (row : List Item) → Distinct (label_ordinals row) → (i j : ℕ) → is_label (get_or row i absent).standing ≡ true → is_label (get_or row j absent).standing ≡ true → (get_or row i absent).ordinal ≡ (get_or row j absent).ordinal → i ≡ j
apart_from [] apart i j one other same = absurd (both_ways _ refl one)
apart_from (x ∷ xs) apart zero zero one other same = refl
apart_from (x ∷ xs) apart zero (suc j) one other same = let first = rw one at apart in absurd (ordinal_from _ xs first.0 j other same)
apart_from (x ∷ xs) apart (suc i) zero one other same = let first = rw other at apart in absurd (ordinal_from _ xs first.0 i one (sym same))
apart_from (x ∷ xs) apart (suc i) (suc j) one other same = ap suc (apart_from xs (ordinals_rest Distinct (λ n ns all. all.1) x xs apart) i j one other same)

pub label_apart : (row : List Item) → Distinct (label_ordinals row) → (i j : ℕ) → label_at row i ≡ true → label_at row j ≡ true → (item_at row i).ordinal ≡ (item_at row j).ordinal → i ≡ j
label_apart row apart zero j one other same = absurd (both_ways _ refl one)
label_apart row apart (suc i) zero one other same = absurd (both_ways _ refl other)
label_apart row apart (suc i) (suc j) one other same = ap suc (apart_from row apart i j one other same)

distinct_from : (row : List Item) → ((i j : ℕ) → is_label (get_or row i absent).standing ≡ true → is_label (get_or row j absent).standing ≡ true → (get_or row i absent).ordinal ≡ (get_or row j absent).ordinal → i ≡ j) → Distinct (label_ordinals row)
distinct_from [] apart = tt
distinct_from (x ∷ xs) apart =
    let rest = distinct_from xs (λ i j one other same. let next : suc i ≡ suc j = apart (suc i) (suc j) one other same in omega arith) in
    cond_both (is_label x.standing) (x.ordinal ∷ label_ordinals xs) (label_ordinals xs) Distinct
    (λ label. (ordinals_from (λ o. x.ordinal ≡ o → ⊥) xs (λ j other same. let never : 0 ≡ suc j = apart 0 (suc j) label other same in omega arith), rest))
    (λ other. rest)

pub labels_distinct : (row : List Item) → ((i j : ℕ) → label_at row i ≡ true → label_at row j ≡ true → (item_at row i).ordinal ≡ (item_at row j).ordinal → i ≡ j) → Distinct (label_ordinals row)
labels_distinct row apart = distinct_from row (λ i j one other same. let next : suc i ≡ suc j = apart (suc i) (suc j) one other same in omega arith)

-- the row has a label with the ordinal
abbrev pub HasLabel : List Item → ℕ → Type 0
HasLabel row o = (i : ℕ) × (label_at row i ≡ true) × ((item_at row i).ordinal ≡ o)

-- every weight has its label
abbrev pub AllLabelled : {V : Type 0} → Sheet V → Type 0
AllLabelled s = (o : ℕ) → o < length s.weights → HasLabel s.row o
