use Rattle.sheet.specs.Lending.{lent_on}
use Rattle.places.proofs.Making.{seen_found}
use Rattle.strengthening.specs.Leaving.{leaves}
use Rattle.strengthening.proofs.Lifting.{leaving_found}
use Rattle.strengthening.proofs.LeavingTechnique.find.Goals as goal

pub returns : goal.returns
returns g c = leaving_found g.W.Weight (lent_on c.args.desk.now) c.first_place.result (seen_found leaves c.first_place.result c.first_place.ensures c.buffers.ensures)
