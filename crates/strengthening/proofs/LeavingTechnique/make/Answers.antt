use Rattle.sheet.specs.Lending.{lent_on}
use Rattle.strengthening.proofs.Lifting.{struck}
use Rattle.strengthening.proofs.LeavingTechnique.make.Goals as goal

pub returns-clause-answer : goal.returns-clause-answer
returns-clause-answer g c =
    let done = c.strike-desk.ensures in
    struck g.W.Weight (lent_on c.args.desk.now) c.requires.together c.args.found c.requires.found c.strike-desk.new.sheet c.strike-desk.result c.strike-desk.auto.sheet done.end done.laid done.struck
