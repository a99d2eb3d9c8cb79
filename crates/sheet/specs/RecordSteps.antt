-- Where a record lies on the stack, and what is known at its end. Assumes nothing.
use Rattle.std.specs.Prelude.{◌≡◌, ℕ, ◌+◌, ◌<◌, ◌≤◌, List, [], ◌∷◌, ◌++◌, length, take, slice_index}
use Rattle.std.specs.List.{between}
use Rattle.sheet.specs.declared.«record».Filed.{Filed}
use Rattle.sheet.specs.Records.{Record, records, ValidRecord, Stacked}

-- the record that lies there
abbrev pub filed : List ℕ → Filed → Record
filed s p = record { code = p.code; lits = between p.from p.to s; witness = p.witness }

-- The newest record of these words lies at p.
pub record Newest (ws : List ℕ) (p : Filed) : Type 0 where
  pub order : p.from ≤ p.to
  pub end : p.to + 2 ≡ length ws
  pub witness : p.witness ≡ slice_index ws p.to
  pub valid : ValidRecord (filed ws p)
  pub last : records ws ≡ records (take p.from ws) ++ filed ws p ∷ []
  pub rest : Stacked (take p.from ws)

-- The words end with those of a record at p, valid or not: if they are stacked at all, it is the newest.
pub record Ends (ws : List ℕ) (p : Filed) : Type 0 where
  pub order : p.from ≤ p.to
  pub end : p.to + 2 ≡ length ws
  pub code : p.code < 16
  pub count : p.to < p.from + 4096
  pub newest : Stacked ws → Newest ws p
  pub stacked : ValidRecord (filed ws p) → Stacked (take p.from ws) → Stacked ws
