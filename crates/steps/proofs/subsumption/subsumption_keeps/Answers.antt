use Rattle.steps.proofs.Subsumed.{subsumption_keeps, subsumption_pays}
use Rattle.steps.proofs.subsumption.subsumption_keeps.Goals as goal

pub returns : goal.returns
returns g c = record { meaning = subsumption_keeps g.met.W.Weight.lawful; payable = subsumption_pays _ }
