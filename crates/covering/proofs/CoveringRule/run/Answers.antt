use Rattle.std.proofs.Common.{arith}
use Rattle.steps.specs.Covering.{CoveringRuns}
use Rattle.covering.proofs.CoveringRule.run.Goals as goal

pub repeat-requires : goal.repeat-requires
repeat-requires g c = (omega arith, λ j first less. absurd (omega arith))

pub returns-clause-answer : goal.returns-clause-answer
unfolding CoveringRuns
returns-clause-answer g c = c.repeat.ensures.answer
