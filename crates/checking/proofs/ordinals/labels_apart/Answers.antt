use Rattle.std.proofs.Common.{sym, ◌∙◌}
use Rattle.sheet.proofs.Deciding.{refuses}
use Rattle.checking.proofs.Noting.{noting_same, noting_more, noting_twice, noting_label, noting_other}
use Rattle.checking.proofs.ordinals.labels_apart.Goals as goal
use Rattle.checking.proofs.ordinals.labels_apart.Goals.{else-is_label-via-then-is_label+else-note, else-is_label-via-else-is_label}

pub loop-item-preserved : goal.loop-item-preserved
loop-item-preserved c = λ ns noted apart.
    let here = c.loop-item.invariant ns noted apart in
    elim c.else-is_label.branch [
      | else-is_label-via-then-is_label+else-note w ↦
          let label = noting_label _ _ c.loop-item-test.true here (sym c.is_label.ensures ∙ w.if-is_label.true) in
          noting_same w.seen-is (noting_more label w.note.ensures.before w.note.ensures.after w.if-note.false)
      | else-is_label-via-else-is_label w ↦
          let other = noting_other _ _ c.loop-item-test.true here (sym c.is_label.ensures ∙ w.if-is_label.false) in
          noting_same w.seen-is other
    ]

pub returns-then-note : goal.returns-then-note
returns-then-note c = λ ns noted apart.
    let label = noting_label _ _ c.loop-item-test.true (c.loop-item.invariant ns noted apart) (sym c.is_label.ensures ∙ c.if-is_label.true) in
    refuses (noting_twice label c.note.ensures.before c.if-note.true)
