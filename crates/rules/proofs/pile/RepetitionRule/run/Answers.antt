use Rattle.std.proofs.Common.{sym, ◌∙◌}
use Rattle.std.proofs.lemmas.Bool.{eqb-true, eqb-false}
use Rattle.sheet.specs.Lending.{lent_on}
use Rattle.std.proofs.lemmas.Result.{err_from_is_err_and}
use Rattle.rules.proofs.Refused.{refused}
use Rattle.sheet.proofs.Loans.{loans_both}
use Rattle.rules.proofs.Piles.{going_all, going_more, round_idles, round_stops}
use Rattle.rules.proofs.pile.RepetitionRule.run.Goals as goal

pub returns-then-is_idle-clause-answer : goal.returns-then-is_idle-clause-answer
returns-then-is_idle-clause-answer g c =
    let m = g.W.Weight in
    let pile = c.args.self.now in
    let rule = g.R.Rule.runs pile.rule m.Value m.kind in
    let b = lent_on c.args.desk.now in
    round_idles m rule pile.rounds c.args.limit b g.met.W.Weight.lawful c.loop-round.invariant.0 c.loop-round-test.true c.in_ok-one.ensures.answer (sym c.goes_on.ensures ∙ c.if-not-goes_on.false) (eqb-true _ 0 (sym c.is_idle.ensures ∙ c.if-is_idle.true))

pub returns-then-not-goes_on-clause-answer : goal.returns-then-not-goes_on-clause-answer
returns-then-not-goes_on-clause-answer g c =
    let m = g.W.Weight in
    let pile = c.args.self.now in
    let rule = g.R.Rule.runs pile.rule m.Value m.kind in
    let b = lent_on c.args.desk.now in
    round_stops m rule pile.rounds c.args.limit b g.met.W.Weight.lawful c.loop-round.invariant.0 c.loop-round-test.true c.in_ok-one.ensures.answer (sym c.goes_on.ensures ∙ c.if-not-goes_on.true)

pub loop-round-preserved : goal.loop-round-preserved
loop-round-preserved g c =
    let m = g.W.Weight in
    let pile = c.args.self.now in
    let rule = g.R.Rule.runs pile.rule m.Value m.kind in
    let b = lent_on c.args.desk.now in
    (going_more m rule pile.rounds c.args.limit b g.met.W.Weight.lawful c.loop-round.invariant.0 c.loop-round-test.true c.in_ok-one.ensures.answer (sym c.goes_on.ensures ∙ c.if-not-goes_on.false) (eqb-false _ 0 (sym c.is_idle.ensures ∙ c.if-is_idle.false)), loans_both c.loop-round.invariant.1 c.run.ensures.loans)

pub returns-clause-answer : goal.returns-clause-answer
returns-clause-answer g c =
    let m = g.W.Weight in
    let pile = c.args.self.now in
    let rule = g.R.Rule.runs pile.rule m.Value m.kind in
    let b = lent_on c.args.desk.now in
    going_all m rule pile.rounds c.args.limit b g.met.W.Weight.lawful c.loop-round.invariant.0 c.loop-round-test.false

pub returns-in_err-holds_together-clause-answer : goal.returns-in_err-holds_together-clause-answer
returns-in_err-holds_together-clause-answer g c =
    let e = err_from_is_err_and c.from_residual.result c.from_residual.ensures.1 in
    rw e.1 (refused c.args.desk.now c.buffers.result c.buffers.ensures e.2 c.in_err-holds_together.ensures)
