use Rattle.steps.proofs.Covered.{covering_keeps}
use Rattle.steps.proofs.covering.covering_keeps.Goals as goal

pub returns : goal.returns
returns g c = covering_keeps g.met.W.Weight.lawful
