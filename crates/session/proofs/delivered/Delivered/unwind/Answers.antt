use Rattle.session.proofs.Unwinds.{unwind_faithful}
use Rattle.session.proofs.delivered.Delivered.unwind.Goals as goal

pub returns-clause-faithful : goal.returns-clause-faithful
returns-clause-faithful g c = unwind_faithful g.W.Weight g.met.W.Weight.lawful _ c.args.answer.now c.planned.new.answer c.planned.result c.planned.ensures
