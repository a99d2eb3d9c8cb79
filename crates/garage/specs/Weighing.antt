-- What the wishes that a plan breaks weigh, and which of two values is less. Assumes nothing.
use Rattle.std.specs.Prelude.{ℕ, cond, not, List, map, filter}
use Rattle.std.specs.declared.cmp.Ordering.TheVariants.{Less, Equal, Greater}
use Rattle.std.specs.declared.cmp.Ordering.{Ordering}
use Rattle.weight.specs.Kind.{Kind}
use Rattle.garage.specs.Keeping.{kept}
use Rattle.garage.specs.declared.level.Wish.{Wish}

-- the weights of the wishes that are not kept, in order
abbrev pub broken : {W : Type 0} → (Wish → W) → List ℕ → List Wish → List W
broken given bays wishes = map given (filter (λ w. not (kept bays w.literals.now)) wishes)

-- `x` before `y`: of two values each at most the other, neither is less
abbrev pub in_order : {V : Type 0} → Kind V → V → V → Ordering
in_order k x y = cond (k.at_most y x) (cond (k.at_most x y) Equal Greater) Less
