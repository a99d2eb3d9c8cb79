use Rattle.std.proofs.Common.{ℕ, List, ◌++◌, drop}
use Rattle.sheet.specs.Rows.{label_ordinals}
use Rattle.sheet.specs.Together.{Distinct}
use Rattle.checking.specs.Noted.{Noted}
use Rattle.checking.proofs.Noting.{Noting}
use Rattle.checking.proofs.ordinals.labels_apart.Given as goal

abbrev pub invariant-loop-item : goal.invariant-loop-item
invariant-loop-item l = (ns : List ℕ) → Noted l.initial.seen ns → Distinct ns → Noting l.seen (ns ++ label_ordinals l.row) (label_ordinals (drop l.item-index l.row))
