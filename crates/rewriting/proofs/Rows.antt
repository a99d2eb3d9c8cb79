-- Items in a row, as it is indexed, and a row whose first items were rewritten. Assumes nothing.
use Rattle.std.proofs.Common.{◌≡◌, ℕ, zero, suc, ◌-◌, ◌≤◌, List, ◌++◌, length, get_or, set, take, drop, sym, refl, ap, ◌∙◌, arith}
use Rattle.std.proofs.lemmas.List.{drop_at, get_or-take, get_or_default, length-append, length-take-le, set-append_left, take-append-drop, take_at}
use Rattle.sheet.specs.declared.row.Item.{Item}
use Rattle.sheet.specs.declared.row.Standing.{Standing}
use Rattle.sheet.specs.Rows.{absent, item_at}
use Rattle.steps.specs.Rewriting.{retired}

pub item_is : (row : List Item) (i : ℕ) (d : Item) → 1 ≤ i → i ≤ length row → get_or row (i - 1) d ≡ item_at row i
item_is row zero d low high = absurd (omega arith)
item_is row (suc i) d low high = let place : suc i - 1 ≡ i = omega arith in rw place (get_or_default row i d absent (omega arith))

-- one of the first n items, in their part of the row
item_front : (row : List Item) (n i : ℕ) → i ≤ n → item_at (take n row) i ≡ item_at row i
item_front row n zero inside = refl
item_front row n (suc i) inside = get_or-take n row i absent (omega arith)

-- it is retired in that part
pub retired_front : (row : List Item) (n i : ℕ) (next : Standing → Standing) → 1 ≤ i → i ≤ n → n ≤ length row
    → retired row i (next (item_at row i).standing) ≡ retired (take n row) i (next (item_at (take n row) i).standing) ++ drop n row
retired_front row n i next low high fits =
    let new : Item → Item = λ item. record { standing = next item.standing; ordinal = item.ordinal } in
    let long = length-take-le n row fits in
    ap (λ (items : List Item). set items (i - 1) (new (item_at row i))) (sym (take-append-drop n row))
    ∙ set-append_left (take n row) (drop n row) (i - 1) (new (item_at row i)) (omega arith)
    ∙ ap (λ (item : Item). set (take n row) (i - 1) (new item) ++ drop n row) (sym (item_front row n i high))

module _ (row old new : List Item) (n : ℕ) (written : row ≡ new ++ drop n old) (count : length new ≡ n) where
  pub row_front : take n row ≡ new
  row_front = ap (take n) written ∙ take_at new (drop n old) n count

  pub row_behind_lem : drop n row ≡ drop n old
  row_behind_lem = ap (drop n) written ∙ drop_at new (drop n old) n count

  pub row_reaches : n ≤ length row
  row_reaches = omega (arith, ap length written ∙ length-append new (drop n old))
