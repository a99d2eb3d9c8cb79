use Rattle.places.proofs.Searching.{searching_none, searching_more, searching_here}
use Rattle.places.proofs.first_place.Goals as goal

pub loop-at-init : goal.loop-at-init
loop-at-init g c = (c.none-marked.ensures, searching_none _ _ _ c.requires.laid)

pub returns-in-Some : goal.returns-in-Some
returns-in-Some g c = rw c.located.ensures (searching_here c.loop-at.invariant.1 c.read-place.ensures c.requires.fits c.in-Some.i (rw (c.clauses-clauses.ensures.clauses, c.items-row.ensures, c.mark.ensures.ascending c.read-place.ensures.valid.normal.rising) at c.in-Some.ensures))

pub loop-at-preserved : goal.loop-at-preserved
loop-at-preserved g c = (c.unmark.ensures.none c.mark.ensures.members, searching_more c.loop-at.invariant.1 c.read-place.ensures (rw (c.clauses-clauses.ensures.clauses, c.items-row.ensures, c.mark.ensures.ascending c.read-place.ensures.valid.normal.rising) at c.in_default.ensures))
