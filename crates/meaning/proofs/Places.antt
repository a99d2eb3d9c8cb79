-- Items of a row by their number. Assumes nothing.
use Rattle.std.proofs.Common.{◌≡◌, ℕ, zero, suc, ◌-◌, ◌<◌, ◌≤◌, Bool, true, false, ◌≢◌, List, [], ◌∷◌, ◌++◌, length, set, refl, ap, ◌∙◌, inl, inr, arith}
use Rattle.std.proofs.lemmas.List.{get_or_past, get_or_push, get_or-set_same, get_or-set_other, get_or_append_left}
use Rattle.std.proofs.lemmas.Bool.{both_ways, cases_lt}
use Rattle.sheet.specs.declared.row.Item.{Item}
use Rattle.sheet.specs.declared.row.Standing.{Standing}
use Rattle.sheet.specs.declared.row.Standing.TheVariants.{Fixed}
use Rattle.sheet.specs.Rows.{absent, item_at}

pub item_past : (row : List Item) (i : ℕ) → length row < i → item_at row i ≡ absent
item_past row zero past = refl
item_past row (suc i) past = get_or_past row i absent (omega arith)

-- an item that passes a test, which an absent one fails, is one of the row
pub item_inside : (p : Standing → Bool) → p Fixed ≡ false → (row : List Item) (i : ℕ) → p (item_at row i).standing ≡ true → i ≤ length row
item_inside p fails row i passes = elim (cases_lt (length row) i) [
  | inl past ↦ absurd (both_ways (p (item_at row i).standing) (ap (λ x. p x.standing) (item_past row i past) ∙ fails) passes)
  | inr inside ↦ inside
]

pub set_here : (row : List Item) (n : ℕ) (x : Item) → 1 ≤ n → n ≤ length row → item_at (set row (n - 1) x) n ≡ x
set_here row zero x low high = absurd (omega arith)
set_here row (suc i) x low high = let place : suc i - 1 ≡ i = omega arith in rw place (get_or-set_same row i x absent high)

pub set_other : (row : List Item) (n m : ℕ) (x : Item) → 1 ≤ n → (m ≡ n → ⊥) → item_at (set row (n - 1) x) m ≡ item_at row m
set_other row n zero x low other = refl
set_other row n (suc i) x low other = let apart : i ≢ n - 1 = omega arith in get_or-set_other row (n - 1) i x absent apart

pub push_here : (row : List Item) (x : Item) → item_at (row ++ (x ∷ [])) (suc (length row)) ≡ x
push_here row x = get_or_push row x absent (length row) refl

pub push_before : (row : List Item) (x : Item) (m : ℕ) → m ≤ length row → item_at (row ++ (x ∷ [])) m ≡ item_at row m
push_before row x zero inside = refl
push_before row x (suc i) inside = get_or_append_left row (x ∷ []) absent i inside
