use Rattle.std.proofs.Common.{sym, refl, ◌∙◌, inr}
use Rattle.std.proofs.lemmas.Result.{err_from_is_err_and}
use Rattle.sheet.specs.Sheets.{lent}
use Rattle.session.proofs.Causes.{none_from_ok, some_from_err}
use Rattle.session.proofs.Unwinds.{unwindable, unwound_from, cause_is}
use Rattle.session.proofs.delivered.Delivered.planned.Goals as goal

pub returns-in_err-answers : goal.returns-in_err-answers
returns-in_err-answers g c =
    let b = lent c.args.sheet.now c.args.row.now c.args.stack.now c.args.weights.now c.args.self.now.marks c.args.self.now.counts in
    let exit = err_from_is_err_and c.from_residual-in_err-answers.result c.from_residual-in_err-answers.ensures.1 in
    let cause = some_from_err _ (sym c.answers.ensures ∙ c.in_err-answers.was) in
    rw (exit.1, exit.2) (inr (c.in_ok-holds_together.ensures, sym (cause_is g.W.Weight b c.args.answer.now) ∙ cause), refl)

pub unwind_costed-requires : goal.unwind_costed-requires
unwind_costed-requires g c =
    let b = lent c.args.sheet.now c.args.row.now c.args.stack.now c.args.weights.now c.args.self.now.marks c.args.self.now.counts in
    let passes = none_from_ok _ (sym c.answers.ensures ∙ c.in_ok-answers.was) in
    rw c.of-records.ensures.records (unwindable g.W.Weight g.met.W.Weight.lawful b c.in_ok-holds_together.ensures c.args.answer.now passes)

pub returns : goal.returns
returns g c =
    let b = lent c.args.sheet.now c.args.row.now c.args.stack.now c.args.weights.now c.args.self.now.marks c.args.self.now.counts in
    let made = c.unwind_costed.ensures in
    let passes = none_from_ok _ (sym c.answers.ensures ∙ c.in_ok-answers.was) in
    unwound_from g.W.Weight g.met.W.Weight.lawful b c.in_ok-holds_together.ensures c.args.answer.now passes
    c.unwind_costed.new.answer c.unwind_costed.result.0 c.unwind_costed.result.1 (rw c.of-records.ensures.records at made.plan) made.bits c.unwind_costed.auto.answer made.sent made.paid
