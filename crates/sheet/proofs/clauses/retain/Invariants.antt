use Rattle.std.proofs.Common.{◌≡◌, Bool, ◌-◌, length}
use Rattle.sheet.specs.Clauses.{Clause}
use Rattle.sheet.specs.Views.{Tests}
use Rattle.sheet.proofs.Compactions.{Compacting, Kept}
use Rattle.sheet.proofs.clauses.retain.Given as goal

abbrev pub invariant-loop-at : goal.invariant-loop-at
invariant-loop-at g l =
    (length l.sheet ≡ length l.initial.sheet)
    × Compacting l.initial.sheet l.fill l.sheet l.out l.at
    × ((test : Clause → Bool) → Tests g.F.Fn l.keep test → Kept test l.initial.sheet l.fill l.sheet l.out l.at)

abbrev pub decreases-loop-at : goal.decreases-loop-at
decreases-loop-at g l = l.fill - l.at
