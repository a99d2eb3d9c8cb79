use Rattle.std.proofs.Common.{sym, refl, ◌∙◌, arith}
use Rattle.sheet.proofs.Compactions.{compacting_none, compacting_kept, kept_none, kept_kept, kept_all}
use Rattle.sheet.proofs.clauses.retain.Goals as goal

pub loop-at-init : goal.loop-at-init
loop-at-init g c =
    (refl, compacting_none c.args.sheet.now c.args.fill c.requires.laid, λ test tests. kept_none c.args.sheet.now c.args.fill test)

pub loop-at-preserved-then-keep : goal.loop-at-preserved-then-keep
loop-at-preserved-then-keep g c =
    let moved = c.slide-out.ensures in (
      omega arith,
      compacting_kept c.loop-at.invariant.1 c.read-tag.ensures c.slide-out.new.sheet c.slide-out.result moved.end moved.front moved.behind,
      λ test tests. kept_kept c.loop-at.invariant.1 c.read-tag.ensures c.slide-out.new.sheet c.slide-out.result moved.end moved.front moved.behind
          test (sym (tests _ _ _ c.keep.ensures) ∙ c.if-keep.true) (c.loop-at.invariant.2 test tests),
    )

pub returns-clause-kept : goal.returns-clause-kept
returns-clause-kept g c = λ test tests. kept_all c.loop-at.invariant.1 test c.loop-at-test.false (c.loop-at.invariant.2 test tests)
