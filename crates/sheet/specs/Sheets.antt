-- The sheet that the lent buffers stand for. Assumes nothing.
use Rattle.std.specs.Prelude.{ℕ, ◌≤◌, List, map, length, take}
use Rattle.weight.specs.declared.kind.Weight.{Ghosts}
use Rattle.sheet.specs.declared.buffers.Marks.{Marks}
use Rattle.sheet.specs.declared.buffers.Counts.{Counts}
use Rattle.sheet.specs.Rows.{Item}
use Rattle.sheet.specs.Clauses.{Clause, clauses}
use Rattle.sheet.specs.Records.{Record, records}

-- A sheet of weights that mean values of V: the field's formula, with its labels and its reconstruction stack.
pub record Sheet (V : Type 0) : Type 0 where
  -- items 1 to callers are the caller's
  pub callers : ℕ
  pub row : List Item
  pub clauses : List Clause
  -- the oldest record first
  pub stack : List Record
  pub weights : List V

-- the buffers, marks and counts as they are
pub record Lent (W : Type 0) : Type 0 where
  pub sheet : List ℕ
  pub row : List Item
  pub stack : List ℕ
  pub weights : List W
  pub marks : Marks
  pub counts : Counts

-- the same, made of what the references point to
abbrev pub lent : {W : Type 0} → List ℕ → List Item → List ℕ → List W → Marks → Counts → Lent W
lent sheet row stack weights marks counts = record { sheet = sheet; row = row; stack = stack; weights = weights; marks = marks; counts = counts }

-- Words fit where they end within the bound of 32,768 and within the buffer.
pub record Fits (end : ℕ) (buffer : List ℕ) : Type 0 where
  pub bound : end ≤ 32768
  pub length : end ≤ length buffer

-- what is in use
abbrev pub used_clauses : {W : Type 0} → Lent W → List Clause
used_clauses b = clauses (take b.marks.sheet b.sheet)

abbrev pub used_row : {W : Type 0} → Lent W → List Item
used_row b = take b.counts.items b.row

abbrev pub used_records : {W : Type 0} → Lent W → List Record
used_records b = records (take b.marks.stack b.stack)

abbrev pub used_weights : {W : Type 0} → Lent W → List W
used_weights b = take b.counts.softs b.weights

-- the sheet that they stand for
unfoldable pub decoded : {W : Type 0} (m : Ghosts W) → Lent W → Sheet m.Value
decoded m b = record {
  callers = b.counts.callers;
  row = used_row b;
  clauses = used_clauses b;
  stack = used_records b;
  weights = map m.value (used_weights b);
}
