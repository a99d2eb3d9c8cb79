-- Items by their standing. Assumes nothing.
use Rattle.std.specs.Prelude.{ℕ, zero, suc, Bool, true, false, cond, List, [], ◌∷◌, slice_index_or}
pub use Rattle.sheet.specs.declared.row.Item.{Item}
pub use Rattle.sheet.specs.declared.row.Standing.{Standing}
pub use Rattle.sheet.specs.declared.row.Standing.TheVariants.{Plain, Label, Fixed, Covered, Forced}

abbrev pub is_live : Standing → Bool
is_live Plain = true
is_live Label = true
is_live Fixed = false
is_live Covered = false
is_live Forced = false

-- a label, live or retired
abbrev pub is_label : Standing → Bool
is_label Plain = false
is_label Label = true
is_label Fixed = false
is_label Covered = true
is_label Forced = true

-- what stands for an item that no row has
abbrev pub absent : Item
absent = record { standing = Fixed; ordinal = 0 }

-- Items are numbered from 1.
abbrev pub item_at : List Item → ℕ → Item
item_at row zero = absent
item_at row (suc i) = slice_index_or row i absent

abbrev pub live_at : List Item → ℕ → Bool
live_at row i = is_live (item_at row i).standing

abbrev pub label_at : List Item → ℕ → Bool
label_at row i = is_label (item_at row i).standing

-- the ordinals of the labels, live or retired
abbrev pub label_ordinals : List Item → List ℕ
label_ordinals [] = []
label_ordinals (x ∷ xs) = cond (is_label x.standing) (x.ordinal ∷ label_ordinals xs) (label_ordinals xs)
