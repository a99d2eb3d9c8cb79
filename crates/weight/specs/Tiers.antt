-- A whole number above a value of another kind: added part by part, compared by the part above first. Assumes nothing.
use Rattle.std.specs.Prelude.{ℕ, ◌+◌, ◌&&◌, ◌||◌, ◌==◌, nat_le, nat_lt}
use Rattle.weight.specs.Kind.{Kind}
use Rattle.weight.specs.Wholes.{ceiling}

abbrev pub tiers : {V : Type 0} → Kind V → Kind (ℕ × V)
tiers k = record {
  zero = (0, k.zero);
  sum = λ x y. (x.0 + y.0, k.sum x.1 y.1);
  at_most = λ x y. nat_lt x.0 y.0 || (x.0 == y.0 && k.at_most x.1 y.1);
  within = λ x. nat_le x.0 ceiling && k.within x.1;
}
