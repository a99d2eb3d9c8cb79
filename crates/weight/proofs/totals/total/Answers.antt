use Rattle.weight.proofs.Folding.{so_far_more}
use Rattle.weight.proofs.totals.total.Goals as goal

pub loop-w-preserved : goal.loop-w-preserved
loop-w-preserved g c =
    so_far_more g.met.W.Weight.lawful g.W.Weight.value _ _ _ _ c.loop-w.invariant c.loop-w-test.true c.w-item.is _ c.in_ok-sum.ensures
