-- A literal among others, as the search of a slice answers it. Assumes nothing.
use Rattle.std.proofs.Common.{◌≡◌, ℕ, ◌||◌, List, [], ◌∷◌, refl, ap, eqb}
use Rattle.std.specs.List.{list_any}
use Rattle.sheet.specs.Literals.{has}

pub has_is_any : (w : ℕ) (ws : List ℕ) → list_any (λ x. eqb x w) ws ≡ has w ws
has_is_any w [] = refl
has_is_any w (x ∷ ws) = ap (λ b. eqb x w || b) (has_is_any w ws)
