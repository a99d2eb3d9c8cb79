use Rattle.sheet.specs.declared.clause.Tag.TheVariants.{Soft}
use Rattle.sheet.proofs.Deciding.{refuses}
use Rattle.checking.proofs.Noting.{noting_more, noting_tag, noting_twice}
use Rattle.checking.proofs.ordinals.softs_apart.Goals as goal

pub returns-then-note-clause-apart : goal.returns-then-note-clause-apart
returns-then-note-clause-apart c =
    let soft = noting_tag (Soft c.in-Soft.n) c.in-Some.ensures.steps c.in-Soft.is c.loop-clause.invariant in
    refuses (noting_twice soft c.note.ensures.before c.if-note.true)

pub loop-clause-preserved-else-note : goal.loop-clause-preserved-else-note
loop-clause-preserved-else-note c =
    let soft = noting_tag (Soft c.in-Soft.n) c.in-Some.ensures.steps c.in-Soft.is c.loop-clause.invariant in
    noting_more soft c.note.ensures.before c.note.ensures.after c.if-note.false
