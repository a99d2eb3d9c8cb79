use Rattle.std.proofs.Common.{refl, sym, ◌∙◌}
use Rattle.sheet.specs.Lending.{lent_on}
use Rattle.rules.proofs.Holding.{framed}
use Rattle.rules.proofs.Stepping.{follows_itself}
use Rattle.blocking.proofs.Lifting.{fits_so, taken_out}
use Rattle.blocking.proofs.BlockedTechnique.make.Goals as goal

pub returns-then-not-record_fits-clause-answer : goal.returns-then-not-record_fits-clause-answer
returns-then-not-record_fits-clause-answer g c =
    let b = lent_on c.args.desk.now in
    let together = c.requires.together in
    (refl, fits_so g.W.Weight b together c.args.found c.requires.found ∙ sym c.record_fits.ensures ∙ c.if-not-record_fits.true, framed g.W.Weight b together, follows_itself b)

pub returns-clause-answer : goal.returns-clause-answer
returns-clause-answer g c =
    let out = c.take_out.ensures in
    taken_out g.W.Weight (lent_on c.args.desk.now) c.requires.together c.args.found c.requires.found (sym c.record_fits.ensures ∙ c.if-not-record_fits.false)
    c.take_out.new.sheet c.take_out.new.stack c.take_out.new.marks c.take_out.auto.sheet out.shrinks out.laid out.removed c.take_out.auto.stack out.end out.words
