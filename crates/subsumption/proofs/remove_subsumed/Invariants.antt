use Rattle.std.proofs.Common.{◌-◌}
use Rattle.subsumption.proofs.Passing.{Passing}
use Rattle.subsumption.proofs.remove_subsumed.Given as goal

abbrev pub invariant-loop-at : goal.invariant-loop-at
invariant-loop-at l = Passing l.initial.sheet l.fill l.limit l.sheet l.out l.at l.steps

abbrev pub decreases-loop-at : goal.decreases-loop-at
decreases-loop-at l = l.fill - l.at
