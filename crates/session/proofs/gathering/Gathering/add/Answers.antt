use Rattle.session.proofs.Reaching.{add_faithful}
use Rattle.session.proofs.gathering.Gathering.add.Goals as goal

pub returns-clause-faithful : goal.returns-clause-faithful
returns-clause-faithful g c = add_faithful g.W.Weight g.met.W.Weight.lawful _ c.args.lits.now c.args.claim _ c.take.result c.args.self.now.kept c.take.ensures
