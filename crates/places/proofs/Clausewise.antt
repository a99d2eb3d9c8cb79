-- What `any` and `all` of an iterator answer, in the words of the steps. Assumes nothing.
use Rattle.std.proofs.Common.{◌≡◌, Bool, ◌&&◌, ◌||◌, List, [], ◌∷◌, refl, ap}
use Rattle.std.specs.List.{list_all, list_any}
use Rattle.steps.specs.Places.{some, every}

module _ {X : Type 0} (test : X → Bool) where
  pub some_is_any : (xs : List X) → list_any test xs ≡ some test xs
  some_is_any [] = refl
  some_is_any (x ∷ xs) = ap (λ b. test x || b) (some_is_any xs)

  pub every_is_all : (xs : List X) → list_all test xs ≡ every test xs
  every_is_all [] = refl
  every_is_all (x ∷ xs) = ap (λ b. test x && b) (every_is_all xs)
