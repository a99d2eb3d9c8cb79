use Rattle.std.proofs.Common.{◌++◌, take, sym, ap, ◌∙◌, arith}
use Rattle.sheet.specs.Clauses.{clause_words}
use Rattle.sheet.specs.ClauseSteps.{placed}
use Rattle.steps.specs.Rewriting.{lacking}
use Rattle.rewriting.proofs.Sweeping.{sweeping_none, sweeping_moved, sweeping_all, step_ends}
use Rattle.rewriting.proofs.make_true.Goals as goal

pub loop-at-init : goal.loop-at-init
loop-at-init c = sweeping_none c.args.w c.args.sheet.now c.args.fill c.requires.laid

pub move_without-out-requires-clause-end : goal.move_without-out-requires-clause-end
move_without-out-requires-clause-end c =
    let long = c.loop-at.invariant.long in
    (step_ends c.loop-at.sheet c.loop-at.at c.args.fill c.read-place.result (omega arith) c.read-place.ensures).0

pub loop-at-preserved-then-stays : goal.loop-at-preserved-then-stays
loop-at-preserved-then-stays c =
    let moved = c.move_without-out.ensures in
    sweeping_moved c.loop-at.invariant c.read-place.ensures (sym c.stays.ensures ∙ c.if-stays.true) c.move_without-out.new.sheet c.move_without-out.result
    c.move_without-out.auto.sheet moved.shrinks
    (moved.front ∙ ap (λ w. take c.loop-at.out c.loop-at.sheet ++ clause_words (lacking w (placed c.loop-at.sheet c.read-place.result))) c.opposite-denial.ensures)
    moved.behind

pub returns-clause-rewritten : goal.returns-clause-rewritten
returns-clause-rewritten c = sweeping_all c.loop-at.invariant c.loop-at-test.false
