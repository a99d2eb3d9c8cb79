-- Blocked clauses in terms of literals alone, and the record of one at its place. Assumes nothing.
use Rattle.std.specs.Prelude.{ℕ, Bool, ◌&&◌, List, slice_index}
use Rattle.std.specs.List.{between}
use Rattle.sheet.specs.declared.clause.Tag.TheVariants.{Working}
use Rattle.sheet.specs.declared.row.Item.{Item}
use Rattle.sheet.specs.Clauses.{Clause}
use Rattle.sheet.specs.Records.{Record}
use Rattle.steps.specs.Places.{every}
use Rattle.steps.specs.Rewriting.{plain_lit}
use Rattle.steps.specs.Blocking.{blocks}
use Rattle.places.specs.Asking.{Asked}
use Rattle.places.specs.declared.Found.{Found}

-- of a clause with these literals
unfoldable pub blocks_in : List Item → List ℕ → ℕ → Clause → Bool
blocks_in row lits w d = blocks row (record { tag = Working; lits = lits }) w d

unfoldable pub all_block : List Item → List Clause → List ℕ → ℕ → Bool
all_block row cs lits w = every (blocks_in row lits w) cs

abbrev pub blocked_in : Asked
blocked_in row cs lits w = plain_lit row w && all_block row cs lits w

-- the clause that lies at p, with the literal there as its witness
abbrev pub record_at : List ℕ → Found → Record
record_at s p = record { code = 2; lits = between p.place.from p.place.to s; witness = slice_index s p.literal }
