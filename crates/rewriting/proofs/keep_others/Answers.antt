use Rattle.std.proofs.Common.{arith}
use Rattle.std.proofs.lemmas.List.Filters.{FiltersInPlace-more_no, FiltersInPlace-more_set}
use Rattle.std.proofs.lemmas.List.{get_or_default}
use Rattle.std.proofs.lemmas.Bool.{eq-eqb, ne_eqb, not_from_true, not_from_false}
use Rattle.rewriting.proofs.keep_others.Goals as goal
use Rattle.rewriting.proofs.keep_others.Goals.{then-words-i, else-words-i}

pub loop-i-preserved : goal.loop-i-preserved
loop-i-preserved c =
    let here = get_or_default c.loop-i.words c.loop-i.i 0 _ (omega arith) in
    elim c.if-words-i.branch [
      | then-words-i w ↦ rw (w.words-is, w.count-is) (FiltersInPlace-more_set c.loop-i.invariant (omega arith) (not_from_false _ (ne_eqb _ _ w.if-words-i.true)) here)
      | else-words-i w ↦ rw (w.words-is, w.count-is) (FiltersInPlace-more_no c.loop-i.invariant (omega arith) (not_from_true _ (eq-eqb _ _ w.if-words-i.false)) here)
    ]
