-- Whole numbers as a kind of weight. Assumes nothing.
use Rattle.std.specs.Prelude.{ℕ, ◌+◌, nat_le}
use Rattle.weight.specs.Kind.{Kind}

-- 2 ^ 62
abbrev pub ceiling : ℕ
ceiling = 4_611_686_018_427_387_904

abbrev pub wholes : Kind ℕ
wholes = record {
  zero = 0;
  sum = λ x y. x + y;
  at_most = nat_le;
  within = λ x. nat_le x ceiling;
}
