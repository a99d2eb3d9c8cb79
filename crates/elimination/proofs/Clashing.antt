-- Two clauses clash whichever of them is looked through. Assumes nothing.
use Rattle.std.proofs.Common.{◌≡◌, ℕ, ◌||◌, false, List, [], ◌∷◌, refl, ap, ◌∙◌, arith}
use Rattle.std.specs.List.{list_any}
use Rattle.std.proofs.lemmas.Bool.Decides.{nat_tests}
use Rattle.marking.specs.Marks.{other_denied}
use Rattle.steps.specs.Places.{some}
use Rattle.steps.specs.Elimination.{clashes_at}
use Rattle.elimination.specs.Resolving.{working}

none_clashes : (x : ℕ) (c : List ℕ) → some (clashes_at x (working [])) c ≡ false
none_clashes x [] = refl
none_clashes x (w ∷ c) = let rest = none_clashes x c in grind (arith, nat_tests)

clashes_more : (x y : ℕ) (d c : List ℕ) → some (clashes_at x (working (y ∷ d))) c ≡ (other_denied x y c || some (clashes_at x (working d)) c)
unfolding other_denied
clashes_more x y d [] = refl
clashes_more x y d (w ∷ c) = let rest = clashes_more x y d c in grind (arith, nat_tests)

pub clashes_is_any : (x : ℕ) (c d : List ℕ) → some (clashes_at x (working d)) c ≡ list_any (λ y. other_denied x y c) d
clashes_is_any x c [] = none_clashes x c
clashes_is_any x c (y ∷ d) = clashes_more x y d c ∙ ap (λ b. other_denied x y c || b) (clashes_is_any x c d)
