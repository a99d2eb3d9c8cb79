-- What a run of a rule answers over lent buffers. Assumes nothing.
use Rattle.std.specs.Prelude.{◌≡◌, ℕ, drop, Ok, Err, Result}
use Rattle.weight.specs.declared.kind.Weight.{Ghosts}
use Rattle.sheet.specs.declared.buffers.Phase.TheVariants.{Working}
use Rattle.sheet.specs.declared.refusal.Part.{Part}
use Rattle.sheet.specs.declared.refusal.Refusal.{Refusal}
use Rattle.sheet.specs.declared.refusal.Refusal.TheVariants.{NotTogether}
use Rattle.sheet.specs.Sheets.{Sheet, Lent, decoded}
use Rattle.sheet.specs.Together.{HoldsTogether, Fails}
use Rattle.meaning.specs.declared.report.Report.{Report}
use Rattle.meaning.specs.Running.{Ran}
use Rattle.meaning.specs.Steps.{Runs, outcome}
use Rattle.steps.specs.Rooms.{Room, room_of}

-- A run that passes, from the buffers b to the buffers c: it is one of those that the rule says it runs, and it means what a run must.
pub record Went {W : Type 0} (m : Ghosts W) (rule : Room → Runs (Sheet m.Value)) (limit : ℕ) (b c : Lent W) (r : Report) : Type 0 where
  pub before : HoldsTogether m Working b
  pub after : HoldsTogether m Working c
  pub exact : rule (room_of b) limit (decoded m b) (outcome r.steps r.ending (decoded m c))
  pub ran : Ran m.kind limit (decoded m b) (outcome r.steps r.ending (decoded m c))
  pub counts : c.counts ≡ b.counts
  pub room : room_of c ≡ room_of b
  -- row records behind the items are as they were
  pub behind : drop b.counts.items c.row ≡ drop b.counts.items b.row

-- A run refuses only buffers that do not hold together, with the first part that fails, and then changes nothing.
abbrev pub RunAnswered : {W : Type 0} (m : Ghosts W) → (Room → Runs (Sheet m.Value)) → ℕ → Lent W → Lent W → Result Report Refusal → Type 0
RunAnswered m rule limit b c (Ok r) = Went m rule limit b c r
RunAnswered m rule limit b c (Err e) = ((part : Part) × (e ≡ NotTogether part) × Fails m Working b part) × (c ≡ b)
