use Rattle.steps.proofs.Strengthened.{strengthening_keeps, strengthening_pays}
use Rattle.steps.proofs.strengthening.strengthening_keeps.Goals as goal

pub returns : goal.returns
returns g c = record { meaning = strengthening_keeps g.met.W.Weight.lawful; payable = strengthening_pays _ }
