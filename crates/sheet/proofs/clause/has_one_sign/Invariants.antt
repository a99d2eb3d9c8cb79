use Rattle.std.proofs.Common.{◌+◌, ◌-◌, length}
use Rattle.sheet.proofs.Signs.{Merged}
use Rattle.sheet.proofs.clause.has_one_sign.Given as goal

abbrev pub invariant-loop-plain : goal.invariant-loop-plain
invariant-loop-plain l = Merged l.lits l.split l.plain l.denied

abbrev pub decreases-loop-plain : goal.decreases-loop-plain
decreases-loop-plain l = (l.split - l.plain) + (length l.initial.lits - l.denied)
