use Rattle.std.proofs.Common.{◌≡◌, ◌-◌, [], take}
use Rattle.sheet.specs.Clauses.{clauses}
use Rattle.sheet.specs.Lending.{lent_in}
use Rattle.sheet.specs.Sheets.{used_row}
use Rattle.places.proofs.Searching.{Searching}
use Rattle.places.proofs.first_place.Given as goal

abbrev pub invariant-loop-at : goal.invariant-loop-at
invariant-loop-at g l =
    (l.marked ≡ [])
    × Searching (g.T.Test.test l.test (used_row (lent_in l.fn.lent)) (clauses (take l.fill l.sheet))) l.sheet l.fill l.at

abbrev pub decreases-loop-at : goal.decreases-loop-at
decreases-loop-at g l = l.fill - l.at
