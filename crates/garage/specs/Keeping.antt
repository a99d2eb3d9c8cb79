-- When a plan keeps a wish. A plan is the bay of each holder. Assumes nothing.
use Rattle.std.specs.List.{list_any}
use Rattle.std.specs.Prelude.{ℕ, suc, ◌+◌, ◌-◌, ◌/◌, ◌%◌, Bool, not, ◌&&◌, List, ℤ, pos, negsuc, ◌==◌, nat_lt, slice_index}

-- Item 4 * h + b, for h from 0 and b from 1 to 4: the holder at h has bay b. No bay is 0, so a holder that is not there has none.
abbrev pub parked : List ℕ → ℕ → Bool
parked bays item = nat_lt 0 item && slice_index bays ((item - 1) / 4) == (item - 1) % 4 + 1

-- a literal: the item of its number, or the denial of that item
abbrev pub agreed : List ℕ → ℤ → Bool
agreed bays (pos n) = parked bays n
agreed bays (negsuc n) = not (parked bays (suc n))

-- one of the literals is true
abbrev pub kept : List ℕ → List ℤ → Bool
kept bays literals = list_any (agreed bays) literals
