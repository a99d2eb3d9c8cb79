use Rattle.steps.specs.Strengthening.{StrengtheningRuns}
use Rattle.strengthening.proofs.StrengtheningRule.run.Goals as goal

pub returns-clause-answer : goal.returns-clause-answer
unfolding StrengtheningRuns
returns-clause-answer g c = c.repeat.ensures.answer
