use Rattle.std.proofs.Common.{refl, ap, ◌∙◌, arith, rules}
use Rattle.sheet.specs.Clauses.{clauses}
use Rattle.elimination.specs.Eliminating.{Words}
use Rattle.elimination.proofs.Laying.{all_laid, all_fits, all_made, sheet_grown, stack_grown}
use Rattle.elimination.proofs.step.eliminate.Goals as goal

pub drop_item-undo-requires-clause-laid : goal.drop_item-undo-requires-clause-laid
drop_item-undo-requires-clause-laid c =
    let b : Words = record { sheet = c.args.sheet.now; stack = c.args.stack.now; marks = c.args.marks.now } in
    let cut = c.split_at_mut-front.ensures in
    let same = c.of-clauses.ensures.clauses ∙ ap clauses cut.front in
    let wrote = sheet_grown c.args.x b c.guard-undo.result.marks.now c.guard-undo.ensures.marks c.of-clauses.result same c.in-Some.more c.append_all.new.free c.requires.sheet _ _ cut.front cut.back _ (omega arith) c.append_all.auto.free c.in-Some.ensures.wrote in
    all_laid c.args.x b c.requires.laid c.requires.item _ _ wrote.0 wrote.1

pub returns-clause-step : goal.returns-clause-step
returns-clause-step c =
    let b : Words = record { sheet = c.args.sheet.now; stack = c.args.stack.now; marks = c.args.marks.now } in
    let cut = c.split_at_mut-front.ensures in
    let same = c.of-clauses.ensures.clauses ∙ ap clauses cut.front in
    let wrote = sheet_grown c.args.x b c.guard-undo.result.marks.now c.guard-undo.ensures.marks c.of-clauses.result same c.in-Some.more c.append_all.new.free c.requires.sheet _ _ cut.front cut.back _ (omega arith) c.append_all.auto.free c.in-Some.ensures.wrote in
    let pushed = stack_grown c.args.x b c.guard-undo.result.marks.now c.guard-undo.ensures.marks c.of-clauses.result same c.in-Some-push_all.more c.push_all.new.free c.requires.stack _ (omega arith) c.push_all.auto.free c.in-Some-push_all.ensures in
    let dropped = c.drop_item-undo.ensures in (
      all_fits c.args.x b c.requires.laid c.requires.item _ _ wrote.0 wrote.1 c.requires.stacked _ _ pushed,
      all_made c.args.x b c.requires.laid c.requires.item _ _ wrote.0 wrote.1 c.requires.stacked _ _ pushed
          _ c.drop_item-undo.result (search rules) (search rules) (search rules) refl dropped.shrinks dropped.laid dropped.kept,
    )
