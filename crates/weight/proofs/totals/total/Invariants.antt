use Rattle.weight.proofs.Folding.{SoFar}
use Rattle.weight.proofs.totals.total.Given as goal

abbrev pub invariant-loop-w : goal.invariant-loop-w
invariant-loop-w g l = let m = g.W.Weight in SoFar g.met.W.Weight.lawful m.value l.weights l.w-index (m.value l.sum)
