use Rattle.std.proofs.Common.{◌≡◌, ◌+◌, ◌-◌, [], length}
use Rattle.sheet.specs.Lending.{lent_in}
use Rattle.sheet.specs.Sheets.{used_clauses, used_row}
use Rattle.steps.specs.Elimination.{may_go}
use Rattle.steps.specs.Places.{lowest_item, nameable}
use Rattle.elimination.proofs.find.first_to_go.Given as goal

abbrev pub invariant-loop-x : goal.invariant-loop-x
invariant-loop-x g l =
    let b = lent_in l.fn.lent in
    (l.marked ≡ [])
    × (lowest_item (may_go (used_row b) l.clauses) l.x ((l.last + 1) - l.x) ≡ lowest_item (may_go (used_row b) (used_clauses b)) 1 (nameable (length (used_row b))))
