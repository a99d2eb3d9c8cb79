use Rattle.steps.proofs.Eliminated.{elimination_keeps, elimination_pays}
use Rattle.steps.proofs.elimination.elimination_keeps.Goals as goal

pub returns : goal.returns
returns g c = record { meaning = elimination_keeps g.met.W.Weight.lawful; payable = elimination_pays _ }
