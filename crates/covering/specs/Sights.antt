-- What a search for labels looks at, as a sheet. Assumes nothing.
use Rattle.weight.specs.declared.kind.Weight.{Ghosts}
use Rattle.sheet.specs.Sheets.{Sheet}
use Rattle.covering.specs.declared.labels.Labels.{Labels}
use Rattle.covering.specs.Labels.{seen}

abbrev pub in_sight : {W : Type 0} (m : Ghosts W) → Labels W → Sheet m.Value
in_sight m s = seen m s.clauses s.row.now s.weights.now
