-- What a wish weighs in each kind, what single precision makes of that, and what is left of a weight. Assumes nothing.
use Rattle.std.specs.Prelude.{◌≡◌, ℕ, pos, Some, None, Option, ◌≢◌, from_bits, Float}
use Rattle.std.specs.Float.Ieee.{add, mul, of_int}
use Rattle.std.specs.Float.{binary32}
use Rattle.weight.specs.Kind.{Kind}
use Rattle.weight.specs.declared.tier.Tier.{Tier}
use Rattle.weight.specs.declared.whole.Whole.{Whole}
use Rattle.garage.specs.declared.level.Wish.{Wish}

abbrev pub in_points : Wish → Whole
in_points w = record { units = w.points }

abbrev pub in_tiers : Wish → Tier Whole
in_tiers w = record { above = record { units = w.above }; below = record { units = w.below } }

-- zero, whose bits are all 0
abbrev pub nought : Float
nought = from_bits binary32 0

-- the nearest number that single precision has
abbrev pub nearest : ℕ → Float
nearest n = of_int binary32 (pos n)

-- one above counts as 16,777,216
abbrev pub scaled : ℕ → ℕ → Float
scaled above below = add binary32 (mul binary32 (nearest above) (nearest 16_777_216)) (nearest below)

-- what makes `x` once `y` is added to it, and nothing only where no value does
abbrev pub Rest : {V W : Type 0} → Kind V → (W → V) → V → V → Option W → Type 0
Rest k value x y (Some w) = k.sum (value w) y ≡ x
Rest {V} k value x y None = (v : V) → k.sum v y ≢ x
