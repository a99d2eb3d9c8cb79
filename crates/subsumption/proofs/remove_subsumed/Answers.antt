use Rattle.std.proofs.Common.{arith}
use Rattle.sheet.specs.ClauseSteps.{placed}
use Rattle.subsumption.proofs.Passing.{looked_at, passing_none, passing_done, passing_limit, passing_dropped, passing_kept}
use Rattle.subsumption.proofs.remove_subsumed.Goals as goal

pub loop-at-init : goal.loop-at-init
loop-at-init c = passing_none c.args.sheet.now c.args.fill c.args.limit c.requires.laid

pub returns-then-steps-limit : goal.returns-then-steps-limit
returns-then-steps-limit c =
    let low = c.loop-at.invariant.low in
    let here = looked_at (placed c.loop-at.sheet c.read-from.result) c.is_subsumed.ensures c.of-before.ensures.clauses c.of-behind.ensures.clauses c.if-not-is_subsumed.false in
    let end = passing_limit c.loop-at.invariant c.read-from.ensures here c.if-steps-limit.true c.slide.new.sheet c.slide.result c.slide.ensures.front in
    record { shrinks = omega (arith, c.slide.ensures.end); laid = end.0; exact = end.1 }

pub loop-at-preserved-then-not-is_subsumed : goal.loop-at-preserved-then-not-is_subsumed
loop-at-preserved-then-not-is_subsumed c =
    let here = looked_at (placed c.loop-at.sheet c.read-from.result) c.is_subsumed.ensures c.of-before.ensures.clauses c.of-behind.ensures.clauses c.if-not-is_subsumed.true in
    let moved = c.slide-out.ensures in
    passing_kept c.loop-at.invariant c.read-from.ensures here c.slide-out.new.sheet c.slide-out.result moved.end moved.front moved.behind

pub loop-at-preserved : goal.loop-at-preserved
loop-at-preserved c =
    let spent = c.loop-at.invariant.turning.spent in
    let here = looked_at (placed c.loop-at.sheet c.read-from.result) c.is_subsumed.ensures c.of-before.ensures.clauses c.of-behind.ensures.clauses c.if-not-is_subsumed.false in
    passing_dropped c.loop-at.invariant c.read-from.ensures here (omega (arith, c.if-steps-limit.false))

pub returns-clause-exact : goal.returns-clause-exact
returns-clause-exact c = passing_done c.loop-at.invariant c.loop-at-test.false
