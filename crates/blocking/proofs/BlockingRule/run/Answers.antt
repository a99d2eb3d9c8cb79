use Rattle.steps.specs.Blocking.{BlockingRuns}
use Rattle.blocking.proofs.BlockingRule.run.Goals as goal

pub returns-clause-answer : goal.returns-clause-answer
unfolding BlockingRuns
returns-clause-answer g c = c.repeat.ensures.answer
