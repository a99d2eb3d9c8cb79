-- Self-subsuming resolution in terms of literals alone. Assumes nothing.
use Rattle.std.specs.Prelude.{ℕ, Bool, ◌&&◌, List}
use Rattle.sheet.specs.Literals.{opposite, has}
use Rattle.sheet.specs.Clauses.{Clause}
use Rattle.steps.specs.Places.{some}
use Rattle.steps.specs.Rewriting.{inside, but, plain_lit}
use Rattle.places.specs.Asking.{Asked}

-- d has the denial, and otherwise only these literals
abbrev pub yields_to : List ℕ → ℕ → Clause → Bool
yields_to lits denial d = has denial d.lits && inside (but denial d.lits) lits

unfoldable pub yielded : List Clause → List ℕ → ℕ → Bool
yielded cs lits w = some (yields_to lits (opposite w)) cs

-- w may leave a clause with these literals
abbrev pub leaves : Asked
leaves row cs lits w = plain_lit row w && yielded cs lits w
