use Rattle.std.proofs.Common.{map}
use Rattle.unwinding.specs.Bytes.{values_of}
use Rattle.unwinding.proofs.Billing.{Billing}
use Rattle.unwinding.proofs.costs.cost.Given as goal

abbrev pub invariant-loop-i : goal.invariant-loop-i
invariant-loop-i g l = let m = g.W.Weight in Billing m.kind l.bill (map m.value l.weights) (values_of l.answer) l.row l.i (m.value l.sum)
