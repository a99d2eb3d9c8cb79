-- The words that are marked in a table with a flag for each word. Assumes nothing.
use Rattle.std.specs.Prelude.{ℕ, suc, Bool, cond, not, ◌&&◌, List, [], ◌∷◌, ◌==◌}
use Rattle.std.specs.List.{list_any}
use Rattle.sheet.specs.Literals.{opposite}

-- the first flag is that of word n
abbrev pub flagged_from : ℕ → List Bool → List ℕ
flagged_from n [] = []
flagged_from n (f ∷ fs) = cond f (n ∷ flagged_from (suc n) fs) (flagged_from (suc n) fs)

-- in ascending order
unfoldable pub flagged : List Bool → List ℕ
flagged table = flagged_from 0 table

-- y denies one of the words other than x
unfoldable pub other_denied : ℕ → ℕ → List ℕ → Bool
other_denied x y ws = list_any (λ w. not (w == x) && opposite w == y) ws
