use Rattle.steps.proofs.Propagated.{propagation_keeps}
use Rattle.steps.proofs.propagation.propagation_keeps.Goals as goal

pub returns : goal.returns
returns g c = propagation_keeps g.met.W.Weight.lawful
