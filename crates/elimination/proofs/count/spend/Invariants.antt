use Rattle.std.proofs.Common.{◌≡◌, ◌+◌, length}
use Rattle.elimination.specs.Resolving.{working, resolvents_in}
use Rattle.elimination.proofs.count.spend.Given as goal

abbrev pub invariant-loop-other : goal.invariant-loop-other
invariant-loop-other l =
    l.rest + length (resolvents_in l.x (working l.marked) l.clauses) ≡ l.most + length (resolvents_in l.x (working l.marked) l.other-iterator)
