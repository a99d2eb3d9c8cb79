use Rattle.sheet.specs.Lending.{lent_on}
use Rattle.propagation.proofs.Units.{seen_unit, unit_found}
use Rattle.propagation.proofs.SearchTechnique.find.Goals as goal

pub returns : goal.returns
returns g c = unit_found g.W.Weight (lent_on c.args.desk.now) c.first_unit.result (seen_unit c.first_unit.ensures c.clauses.ensures.clauses c.buffers.ensures)
