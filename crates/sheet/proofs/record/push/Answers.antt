use Rattle.std.proofs.Common.{◌+◌, ◌-◌, List, [], ◌∷◌, ◌++◌, length, take, set, ap, ◌∙◌}
use borrow.Rule.Slice.PartMut.{put_mid}
use Rattle.sheet.proofs.Pushing.{pushed}
use Rattle.sheet.proofs.record.push.Goals as goal

pub returns-clause-words : goal.returns-clause-words
returns-clause-words c =
    let s = c.args.stack.now in
    let ws = c.args.lits.now in
    let fill = c.args.fill in
    let w = c.args.witness in
    let t = c.trailer.result in
    let to = fill + length ws in
    ap (λ (xs : List _). take (to + 2) (set (set (put_mid fill (to - fill) s xs) to w) (to + 1) t)) c.copy_from_slice.ensures.after ∙ pushed s ws fill w t c.requires.room ∙ ap (λ z. take fill s ++ (ws ++ w ∷ z ∷ [])) c.trailer.ensures
