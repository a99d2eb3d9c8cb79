use Rattle.std.specs.List.{AllByRecursion}
use Rattle.sheet.specs.Clauses.{Valid}
use Rattle.closing.specs.Labelling.{Ranged}
use Rattle.closing.proofs.Tables.{Surveying}
use Rattle.closing.proofs.survey.Survey.of.Given as goal

abbrev pub invariant-loop-clause : goal.invariant-loop-clause
invariant-loop-clause l = AllByRecursion Valid l.clause-iterator × Ranged 2000 l.clause-iterator × Surveying l.clauses l.clause-iterator l.survey
