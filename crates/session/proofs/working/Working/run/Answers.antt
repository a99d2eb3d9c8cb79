use Rattle.session.proofs.Runs.{run_faithful}
use Rattle.session.proofs.working.Working.run.Goals as goal

pub returns-clause-faithful : goal.returns-clause-faithful
returns-clause-faithful g c = run_faithful g.W.Weight (g.R.Rule.runs c.args.rule.now g.W.Weight.Value g.W.Weight.kind) c.args.limit _ _ g.met.W.Weight.lawful c.work.result c.work.ensures
