use Rattle.std.proofs.Common.{refl}
use Rattle.closing.proofs.Tables.{capped_none, surveying_none}
use Rattle.closing.proofs.survey.Survey.of.Goals as goal

pub invariant_of-survey : goal.invariant_of-survey
invariant_of-survey c = record { capped = capped_none }

pub loop-clause-init : goal.loop-clause-init
loop-clause-init c =
    let all = c.iter-clause-items.ensures.clauses in
    rw c.into_iter-clause-iterator.ensures.into_iter_gives
    (c.iter-clause-items.ensures.valid, rw all c.requires.ranged, rw all (surveying_none c.args.clauses.now _ refl refl))
