use Rattle.steps.specs.Propagation.{PropagationRuns}
use Rattle.propagation.proofs.PropagationRule.run.Goals as goal

pub returns-clause-answer : goal.returns-clause-answer
unfolding PropagationRuns
returns-clause-answer g c = c.repeat.ensures.answer
