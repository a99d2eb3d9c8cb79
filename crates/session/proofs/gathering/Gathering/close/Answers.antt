use Rattle.session.proofs.Closes.{close_faithful}
use Rattle.session.proofs.gathering.Gathering.close.Goals as goal

pub returns-clause-faithful : goal.returns-clause-faithful
returns-clause-faithful g c = close_faithful g.W.Weight g.met.W.Weight.lawful _ _ c.label.result c.label.ensures
