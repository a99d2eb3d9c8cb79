-- A table of the ordinals that were seen. Assumes nothing.
use Rattle.std.specs.Prelude.{◌≡◌, ℕ, false, List, slice_index_or}
use Rattle.sheet.specs.Literals.{has}
use Rattle.checking.specs.declared.seen.Seen.{Seen}

-- marked for the ordinals of ns
abbrev pub Noted : Seen → List ℕ → Type 0
Noted seen ns = (n : ℕ) → slice_index_or seen.table n false ≡ has n ns
