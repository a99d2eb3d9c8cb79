use Rattle.covering.proofs.Unpaid.{label_found, seen_lowest}
use Rattle.sheet.specs.Lending.{lent_on}
use Rattle.covering.proofs.SearchTechnique.find.Goals as goal

pub returns : goal.returns
returns g c = label_found g.W.Weight (lent_on c.args.desk.now) _ (seen_lowest g.W.Weight _ c.first_covered.ensures c.of.ensures c.buffers.ensures)
