-- What the structs of lent buffers stand for. Assumes nothing.
use Rattle.std.specs.Prelude.{◌≡◌, length}
use Rattle.sheet.specs.declared.buffers.Buffers.{Buffers}
use Rattle.sheet.specs.declared.buffers.Desk.{Desk}
use Rattle.sheet.specs.Sheets.{Lent, lent}

abbrev pub lent_in : {W : Type 0} → Buffers W → Lent W
lent_in b = lent b.sheet.now b.row.now b.stack.now b.weights.now b.marks b.counts

abbrev pub lent_on : {W : Type 0} → Desk W → Lent W
lent_on d = lent d.sheet.now d.row.now d.stack.now d.weights.now d.marks d.counts

-- The second desk has the loans of the first, as long as they were, whatever was written there, and its weights and counts.
pub record SameLoans {W : Type 0} (d e : Desk W) : Type 0 where
  pub sheet : e.sheet.ghost_name ≡ d.sheet.ghost_name
  pub row : e.row.ghost_name ≡ d.row.ghost_name
  pub stack : e.stack.ghost_name ≡ d.stack.ghost_name
  pub sheet_length : length e.sheet.now ≡ length d.sheet.now
  pub row_length : length e.row.now ≡ length d.row.now
  pub stack_length : length e.stack.now ≡ length d.stack.now
  pub weights : e.weights ≡ d.weights
  pub counts : e.counts ≡ d.counts
