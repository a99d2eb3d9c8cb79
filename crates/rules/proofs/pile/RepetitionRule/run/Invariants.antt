use Rattle.sheet.specs.Lending.{SameLoans, lent_on}
use Rattle.rules.proofs.Piles.{Going}
use Rattle.rules.proofs.pile.RepetitionRule.run.Given as goal

abbrev pub invariant-loop-round : goal.invariant-loop-round
invariant-loop-round g l =
    Going g.W.Weight (g.R.Rule.runs l.self.rule g.W.Weight.Value g.W.Weight.kind) l.self.rounds l.limit (lent_on l.initial.desk) (lent_on l.desk) l.round l.made
    × SameLoans l.initial.desk l.desk
