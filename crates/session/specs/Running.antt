-- Running a rule on a working sheet, by what calls reach. Assumes nothing.
use Rattle.weight.specs.declared.kind.Weight.{Ghosts}
use Rattle.sheet.specs.Sheets.{Lent}
use Rattle.meaning.specs.Calls.{working}
use Rattle.session.specs.Delivering.{PassesOn}

-- passed or refused
abbrev pub RunFaithful : {W : Type 0} (m : Ghosts W) → Lent W → Lent W → Type 0
RunFaithful m b c = PassesOn m working working b c
