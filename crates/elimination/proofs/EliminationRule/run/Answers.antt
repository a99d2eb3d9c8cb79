use Rattle.steps.specs.Elimination.{EliminationRuns}
use Rattle.elimination.proofs.EliminationRule.run.Goals as goal

pub returns-clause-answer : goal.returns-clause-answer
unfolding EliminationRuns
returns-clause-answer g c = c.repeat.ensures.answer
