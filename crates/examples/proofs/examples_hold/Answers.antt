use Rattle.std.proofs.Common.{rules}
use Rattle.steps.specs.Subsumption.{subsumption}
use Rattle.steps.specs.Propagation.{propagation}
use Rattle.steps.specs.Elimination.{elimination}
use Rattle.steps.specs.Covering.{covering}
use Rattle.examples.proofs.examples_hold.Goals as goal

pub returns : goal.returns
unfolding subsumption propagation elimination covering
returns c = search rules
