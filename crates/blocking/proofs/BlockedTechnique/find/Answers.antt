use Rattle.sheet.specs.Lending.{lent_on}
use Rattle.places.proofs.Making.{seen_found}
use Rattle.blocking.specs.Blocks.{blocked_in}
use Rattle.blocking.proofs.Lifting.{blocked_found}
use Rattle.blocking.proofs.BlockedTechnique.find.Goals as goal

pub returns : goal.returns
returns g c = blocked_found g.W.Weight (lent_on c.args.desk.now) c.first_place.result (seen_found blocked_in c.first_place.result c.first_place.ensures c.buffers.ensures)
