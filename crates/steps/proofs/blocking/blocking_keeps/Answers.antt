use Rattle.steps.proofs.Blocked.{blocking_keeps, blocking_pays}
use Rattle.steps.proofs.blocking.blocking_keeps.Goals as goal

pub returns : goal.returns
returns g c = record { meaning = blocking_keeps g.met.W.Weight.lawful; payable = blocking_pays _ }
