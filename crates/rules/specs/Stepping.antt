-- A rule that repeats a step over lent buffers. Assumes nothing.
use Rattle.std.specs.Prelude.{◌≡◌, ◌≤◌, Bool, true, false, length, take, drop, Some, Option}
use Rattle.weight.specs.declared.kind.Weight.{Ghosts}
use Rattle.sheet.specs.Clauses.{Laid}
use Rattle.sheet.specs.Records.{Stacked}
use Rattle.sheet.specs.Sheets.{Fits, Lent, Sheet, decoded}
use Rattle.meaning.specs.Steps.{Runs, repeated_step}
use Rattle.steps.specs.Rooms.{Room, room_of}

-- what such a rule runs
abbrev pub repeats : {V : Type 0} → (Sheet V → Option (Sheet V)) → (Room → Sheet V → Bool) → Room → Runs (Sheet V)
repeats step fits room n s o = o ≡ repeated_step step (fits room) n s

-- there is a place for a step
abbrev pub IsThere : {V : Type 0} → (Sheet V → Option (Sheet V)) → Sheet V → Type 0
IsThere {V = V} step s = (t : Sheet V) × (step s ≡ Some t)

-- how far the buffers reach, and that their words are those of clauses and records
pub record Framed {W : Type 0} (b : Lent W) : Type 0 where
  pub sheet : Fits b.marks.sheet b.sheet
  pub laid : Laid (take b.marks.sheet b.sheet)
  pub row : b.counts.items ≤ length b.row
  pub stack : Fits b.marks.stack b.stack
  pub stacked : Stacked (take b.marks.stack b.stack)
  pub weights : b.counts.softs ≤ length b.weights

-- c is what b has become: counts, room and the row behind the items are the same
pub record Follows {W : Type 0} (b c : Lent W) : Type 0 where
  pub counts : c.counts ≡ b.counts
  pub room : room_of c ≡ room_of b
  pub behind : drop b.counts.items c.row ≡ drop b.counts.items b.row

-- A step that was made, or not made since its words do not fit.
abbrev pub StepAnswered : {W : Type 0} (m : Ghosts W) → (Sheet m.Value → Option (Sheet m.Value)) → (Room → Sheet m.Value → Bool) → Lent W → Lent W → Bool → Type 0
StepAnswered m step fits b c true = (step (decoded m b) ≡ Some (decoded m c)) × (fits (room_of b) (decoded m b) ≡ true) × Framed c × Follows b c
StepAnswered m step fits b c false = (decoded m c ≡ decoded m b) × (fits (room_of b) (decoded m b) ≡ false) × Framed c × Follows b c
