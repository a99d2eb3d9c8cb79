use Rattle.std.proofs.Common.{true, sym, subst, arith}
use Rattle.sheet.specs.Lending.{lent_on}
use Rattle.steps.specs.Elimination.{elimination}
use Rattle.rules.specs.Stepping.{StepAnswered}
use Rattle.elimination.specs.Eliminating.{Words}
use Rattle.elimination.proofs.Turns.{fits_in, given_up, made_so, may_eliminate, place, with_words}
use Rattle.elimination.proofs.SearchTechnique.make.Goals as goal

pub eliminate-requires-clause-item : goal.eliminate-requires-clause-item
eliminate-requires-clause-item g c = may_eliminate g.W.Weight (lent_on c.args.desk.now) c.requires.together c.args.x c.requires.found.1

pub returns-then-not-eliminate-clause-answer : goal.returns-then-not-eliminate-clause-answer
returns-then-not-eliminate-clause-answer g c =
    let w : Words = record { sheet = c.eliminate.new.sheet; stack = c.eliminate.new.stack; marks = c.eliminate.new.marks } in
    let left = c.if-not-eliminate.ensures.step in
    given_up g.W.Weight (lent_on c.args.desk.now) c.requires.together c.args.x c.requires.found.1 w c.eliminate.auto.sheet c.eliminate.auto.stack left.0 left.1

pub fix-requires : goal.fix-requires
fix-requires g c =
    let at = place g.W.Weight (lent_on c.args.desk.now) c.requires.together c.args.x c.requires.found.1 in
    record { low = at.0; high = omega (arith, at.2, c.requires.together.row.fits) }

pub returns-clause-answer : goal.returns-clause-answer
returns-clause-answer g c =
    let b = lent_on c.args.desk.now in
    let x = c.args.x in
    let w : Words = record { sheet = c.eliminate.new.sheet; stack = c.eliminate.new.stack; marks = c.eliminate.new.marks } in
    let made = c.if-not-eliminate.ensures.step in
    subst (λ row. StepAnswered g.W.Weight elimination fits_in b (with_words b w row) true)
    (sym c.fix.ensures)
    (made_so g.W.Weight b c.requires.together x c.requires.found.1 w c.eliminate.auto.sheet c.eliminate.auto.stack made.1 made.0)
