use Rattle.std.proofs.Common.{◌-◌}
use Rattle.rewriting.proofs.Sweeping.{Sweeping}
use Rattle.rewriting.proofs.make_true.Given as goal

abbrev pub invariant-loop-at : goal.invariant-loop-at
invariant-loop-at l = Sweeping l.w l.initial.sheet l.fill l.sheet l.out l.at

abbrev pub decreases-loop-at : goal.decreases-loop-at
decreases-loop-at l = l.fill - l.at
