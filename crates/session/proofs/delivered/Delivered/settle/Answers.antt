use Rattle.std.proofs.Common.{ap₂}
use Rattle.sheet.specs.Sheets.{lent}
use Rattle.session.proofs.Delivers.{settle_faithful}
use Rattle.session.proofs.delivered.Delivered.settle.Goals as goal

pub returns-clause-faithful : goal.returns-clause-faithful
returns-clause-faithful g c = settle_faithful g.W.Weight g.met.W.Weight.lawful _ _ (ap₂ (lent c.args.sheet.now c.args.row.now c.args.stack.now c.args.weights.now) c.of.ensures.marks c.of.ensures.counts)
