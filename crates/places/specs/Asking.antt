-- What a test asks. Assumes nothing.
use Rattle.std.specs.Prelude.{ℕ, Bool, List}
use Rattle.sheet.specs.declared.row.Item.{Item}
use Rattle.sheet.specs.Clauses.{Clause}

-- whether a literal passes in a clause with these literals, among the clauses of a sheet with this row
abbrev pub Asked : Type 0
Asked = List Item → List Clause → List ℕ → ℕ → Bool
