use Rattle.std.proofs.Common.{ap, ◌∙◌}
use Rattle.sheet.specs.Lending.{lent_on}
use Rattle.elimination.specs.Eliminating.{lowest_to_go}
use Rattle.elimination.proofs.Turns.{item_found}
use Rattle.elimination.proofs.SearchTechnique.find.Goals as goal

pub returns : goal.returns
returns g c = item_found g.W.Weight (lent_on c.args.desk.now) c.first_to_go.ensures.clear c.first_to_go.result (c.first_to_go.ensures.lowest ∙ ap lowest_to_go c.buffers.ensures)
