-- What the sheet's part asks of an item that a literal names, and of a clause. Assumes nothing.
use Rattle.std.specs.Prelude.{◌≡◌, ℕ, ◌<◌, Bool, true, false, List, nat_lt}
use Rattle.std.specs.List.{AllByRecursion}
use Rattle.sheet.specs.declared.buffers.Phase.{Phase}
use Rattle.sheet.specs.declared.buffers.Phase.TheVariants.{Gathering, Working}
use Rattle.sheet.specs.declared.row.Item.{Item}
use Rattle.sheet.specs.declared.row.Standing.{Standing}
use Rattle.sheet.specs.declared.row.Standing.TheVariants.{Plain, Label, Fixed, Covered, Forced}
use Rattle.sheet.specs.Clauses.{Clause, ordinal_of}
use Rattle.sheet.specs.Together.{Stands, of_phase}

-- a clause of the phase may hold the literal w of such an item
abbrev pub allowed : Phase → Standing → ℕ → Bool
allowed phase Plain w = true
allowed Gathering Label w = true
allowed Working Label w = nat_lt w 32768
allowed phase Fixed w = false
allowed phase Covered w = false
allowed phase Forced w = false

pub record ClauseStands (phase : Phase) (items softs : ℕ) (row : List Item) (c : Clause) : Type 0 where
  pub kind : of_phase phase c.tag ≡ true
  pub ranged : AllByRecursion (λ n. n < softs) (ordinal_of c.tag)
  pub literals : AllByRecursion (Stands phase items row) c.lits
