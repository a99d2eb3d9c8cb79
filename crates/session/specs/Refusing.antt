-- Why a call refuses. Assumes nothing.
use Rattle.std.specs.Prelude.{◌≡◌, ◌⊎◌, Some, None, Ok, Err, Option, Result}
use Rattle.weight.specs.declared.kind.Weight.{Ghosts}
use Rattle.sheet.specs.declared.buffers.Phase.{Phase}
use Rattle.sheet.specs.declared.refusal.Part.{Part}
use Rattle.sheet.specs.declared.refusal.Refusal.{Refusal}
use Rattle.sheet.specs.declared.refusal.Refusal.TheVariants.{NotTogether}
use Rattle.sheet.specs.Sheets.{Lent}
use Rattle.sheet.specs.Together.{HoldsTogether, Fails}

-- the first of two causes that is there
abbrev pub or_else : {X : Type 0} → Option X → Option X → Option X
or_else None y = y
or_else (Some x) y = Some x

-- what a call that asks for a cause answers
abbrev pub ok_unless : {X : Type 0} → Option X → Result (Unit {0}) X
ok_unless None = Ok tt
ok_unless (Some x) = Err x

-- A call whose own first cause is `cause` refuses with e: the buffers do not hold together, or they do and e is that cause.
abbrev pub Refuses : {W : Type 0} (m : Ghosts W) → Phase → Lent W → Option Refusal → Refusal → Type 0
Refuses m phase b cause e = ((part : Part) × (e ≡ NotTogether part) × Fails m phase b part) ⊎ (HoldsTogether m phase b × (cause ≡ Some e))
