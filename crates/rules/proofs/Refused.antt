-- A run that refuses: the check of the lent buffers names the part that fails, and nothing is changed. Assumes nothing.
use Rattle.std.proofs.Common.{◌≡◌, refl}
use Rattle.weight.specs.declared.kind.Weight.{Ghosts}
use Rattle.sheet.specs.declared.buffers.Buffers.{Buffers}
use Rattle.sheet.specs.declared.buffers.Desk.{Desk}
use Rattle.sheet.specs.declared.buffers.Phase.TheVariants.{Working as at_work}
use Rattle.sheet.specs.declared.refusal.Part.{Part}
use Rattle.sheet.specs.declared.refusal.Refusal.{Refusal}
use Rattle.sheet.specs.declared.refusal.Refusal.TheVariants.{NotTogether}
use Rattle.sheet.specs.Lending.{lent_in, lent_on}
use Rattle.sheet.specs.Together.{Fails}

pub refused : {W : Type 0} {m : Ghosts W} {part : Part} {e : Refusal} (d : Desk W) (seen : Buffers W) → lent_in seen ≡ lent_on d → e ≡ NotTogether part
    → Fails m at_work (lent_in seen) part → ((p : Part) × (e ≡ NotTogether p) × Fails m at_work (lent_on d) p) × (lent_on d ≡ lent_on d)
refused {m = m} {part = part} d seen same told fails = ((part, told, rw same at fails), refl)
