-- Whether a clause yields, by whether each of its literals stays. Assumes nothing.
use Rattle.std.proofs.Common.{◌≡◌, ℕ, Bool, true, false, cond, not, ◌&&◌, ◌||◌, eqb, List, [], ◌∷◌, refl, ap}
use Rattle.std.specs.List.{list_all}
use Rattle.sheet.specs.Literals.{has}
use Rattle.steps.specs.Rewriting.{inside, but}

pub all_stay : (denial : ℕ) (lits xs : List ℕ) → list_all (λ x. eqb x denial || has x lits) xs ≡ inside (but denial xs) lits
all_stay denial lits [] = refl
all_stay denial lits (x ∷ xs) = one (eqb x denial) (all_stay denial lits xs)
  where
    one : (same : Bool) {rest : Bool} → rest ≡ inside (but denial xs) lits → ((same || has x lits) && rest) ≡ inside (cond (not same) (x ∷ but denial xs) (but denial xs)) lits
    one true later = later
    one false later = ap (λ b. has x lits && b) later
