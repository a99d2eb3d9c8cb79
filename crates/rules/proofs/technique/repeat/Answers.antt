use Rattle.std.proofs.Common.{arith}
use Rattle.std.proofs.lemmas.Result.{err_from_is_err_and}
use Rattle.sheet.specs.Lending.{lent_on}
use Rattle.sheet.proofs.Loans.{loans_itself, loans_both}
use Rattle.rules.proofs.Refused.{refused}
use Rattle.rules.proofs.Stepping.{stepping_none, stepping_done, stepping_limit, stepping_full_behind, stepping_more}
use Rattle.rules.proofs.technique.repeat.Goals as goal

pub returns-in_err-holds_together-clause-answer : goal.returns-in_err-holds_together-clause-answer
returns-in_err-holds_together-clause-answer g c =
    let e = err_from_is_err_and c.from_residual.result c.from_residual.ensures.1 in
    rw e.1 (refused c.args.desk.now c.buffers.result c.buffers.ensures e.2 c.in_err-holds_together.ensures)

pub loop-place-init : goal.loop-place-init
loop-place-init g c = (stepping_none g.W.Weight g.met.W.Weight.lawful _ _ g.met.T.Technique.keeps c.args.limit _ (rw c.buffers.ensures at c.in_ok-holds_together.ensures), c.requires, loans_itself c.args.desk.now)

pub returns-then-steps-limit-clause-answer : goal.returns-then-steps-limit-clause-answer
returns-then-steps-limit-clause-answer g c =
    let place = c.in-Some.ensures.1 in
    let spent = c.loop-place.invariant.0.turning.spent in
    stepping_limit g.W.Weight g.met.W.Weight.lawful _ _ g.met.T.Technique.keeps c.loop-place.invariant.0 place.0 place.1 (omega (arith, c.if-steps-limit.true))

pub returns-then-not-make-clause-answer : goal.returns-then-not-make-clause-answer
returns-then-not-make-clause-answer g c =
    let place = c.in-Some.ensures.1 in
    let spent = c.loop-place.invariant.0.turning.spent in
    let full = c.if-not-make.ensures.answer in
    stepping_full_behind g.W.Weight g.met.W.Weight.lawful _ _ g.met.T.Technique.keeps c.loop-place.invariant.0 place.0 place.1 (lent_on c.make.new.desk) (omega (arith, c.if-steps-limit.false)) full.1 full.0 full.2 full.3

pub loop-place-preserved : goal.loop-place-preserved
loop-place-preserved g c =
    let spent = c.loop-place.invariant.0.turning.spent in
    let made = c.if-not-make.ensures.answer in (
      stepping_more g.W.Weight g.met.W.Weight.lawful _ _ g.met.T.Technique.keeps c.loop-place.invariant.0 (lent_on c.make.new.desk) made.0 made.1 (omega (arith, c.if-steps-limit.false)) made.2 made.3,
      c.make.ensures.ready c.if-not-make.false,
      loans_both c.loop-place.invariant.2 c.make.ensures.loans,
    )

pub returns-clause-answer : goal.returns-clause-answer
returns-clause-answer g c = stepping_done g.W.Weight g.met.W.Weight.lawful _ _ g.met.T.Technique.keeps c.loop-place.invariant.0 c.in_default.ensures
