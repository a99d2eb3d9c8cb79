-- The row as code reads it. Assumes nothing.
use Rattle.std.proofs.Common.{◌≡◌, ℕ, zero, suc, ◌-◌, ◌≤◌, List, length, get_or, ap, ◌∙◌, arith}
use Rattle.std.proofs.lemmas.List.{get_or_default}
use Rattle.sheet.specs.declared.row.Item.{Item}
use Rattle.sheet.specs.declared.row.Standing.TheVariants.{Plain}
use Rattle.sheet.specs.Rows.{absent, item_at}

-- what a read past the row's end would give
abbrev pub blank : Item
blank = record { standing = Plain; ordinal = 0 }

pub item_read : (row : List Item) (i : ℕ) → 1 ≤ i → i ≤ length row → get_or row (i - 1) blank ≡ item_at row i
item_read row zero low high = absurd (omega arith)
item_read row (suc k) low high =
    let e : suc k - 1 ≡ k = omega arith in
    ap (λ j. get_or row j blank) e ∙ get_or_default row k blank absent (omega arith)
