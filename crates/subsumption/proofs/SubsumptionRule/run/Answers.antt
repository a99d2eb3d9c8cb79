use Rattle.sheet.specs.Lending.{lent_on}
use Rattle.subsumption.proofs.Lifting.{subsumption_went}
use Rattle.subsumption.proofs.SubsumptionRule.run.Goals as goal

pub returns-clause-answer : goal.returns-clause-answer
returns-clause-answer g c =
    let done = c.remove_subsumed-fill.ensures in
    subsumption_went g.W.Weight g.met.W.Weight.lawful (lent_on c.args.desk.now) (rw c.buffers.ensures at c.in_ok-holds_together.ensures) c.args.limit
    c.remove_subsumed-fill.new.sheet c.remove_subsumed-fill.result.0 c.remove_subsumed-fill.result.1 c.remove_subsumed-fill.auto.sheet done.shrinks done.laid done.exact
