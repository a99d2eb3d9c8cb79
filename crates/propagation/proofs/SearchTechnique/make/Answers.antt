use Rattle.std.proofs.Common.{refl, sym, ◌∙◌, arith}
use Rattle.sheet.specs.declared.buffers.Marks.{Marks}
use Rattle.sheet.specs.Lending.{lent_on}
use Rattle.sheet.specs.Literals.{item_of}
use Rattle.steps.specs.Propagation.{settled_as}
use Rattle.rewriting.proofs.Rows.{retired_front}
use Rattle.rules.proofs.Holding.{framed}
use Rattle.rules.proofs.Stepping.{follows_itself}
use Rattle.propagation.proofs.Units.{unit_fits_lem, unit_follows, unit_framed, unit_made, unit_named}
use Rattle.propagation.proofs.SearchTechnique.make.Goals as goal

pub returns-then-not-record_fits-clause-answer : goal.returns-then-not-record_fits-clause-answer
returns-then-not-record_fits-clause-answer g c =
    let b = lent_on c.args.desk.now in
    (refl, unit_fits_lem g.W.Weight b c.requires.together c.args.w c.requires.found ∙ sym c.record_fits.ensures ∙ c.if-not-record_fits.true, framed g.W.Weight b c.requires.together, follows_itself b)

pub settle-requires : goal.settle-requires
settle-requires g c =
    let named = unit_named g.W.Weight (lent_on c.args.desk.now) c.requires.together c.args.w c.requires.found in
    record { low = named.low; high = omega (arith, named.high, c.requires.together.row.fits) }

pub returns-clause-answer : goal.returns-clause-answer
returns-clause-answer g c =
    let m = g.W.Weight in
    let b = lent_on c.args.desk.now in
    let together = c.requires.together in
    let w = c.args.w in
    let found = c.requires.found in
    let named = unit_named m b together w found in
    let fits = sym c.record_fits.ensures ∙ c.if-not-record_fits.false in
    let rewritten = c.make_true-desk.ensures in
    let pushed = c.record_unit-desk.ensures in
    let settled = c.settle.ensures ∙ retired_front c.args.desk.now.row.now c.args.desk.now.counts.items (item_of w) settled_as named.low named.high together.row.fits in
    let marks : Marks = record { sheet = c.make_true-desk.result; stack = c.record_unit-desk.result } in (
      unit_made m b together w found c.make_true-desk.new.sheet c.record_unit-desk.new.stack _ marks c.make_true-desk.auto.sheet c.record_unit-desk.auto.stack rewritten.shrinks rewritten.laid rewritten.rewritten pushed.end pushed.words settled,
      unit_fits_lem m b together w found ∙ fits,
      unit_framed m b together w found c.make_true-desk.new.sheet c.record_unit-desk.new.stack _ marks c.make_true-desk.auto.sheet c.record_unit-desk.auto.stack rewritten.shrinks rewritten.laid rewritten.rewritten pushed.end pushed.words settled fits,
      unit_follows m b together w found c.make_true-desk.new.sheet c.record_unit-desk.new.stack _ marks c.make_true-desk.auto.sheet c.record_unit-desk.auto.stack rewritten.shrinks rewritten.laid rewritten.rewritten pushed.end pushed.words settled,
    )
