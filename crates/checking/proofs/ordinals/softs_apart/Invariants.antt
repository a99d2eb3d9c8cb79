use Rattle.sheet.specs.Clauses.{soft_ordinals}
use Rattle.checking.proofs.Noting.{Noting}
use Rattle.checking.proofs.ordinals.softs_apart.Given as goal

abbrev pub invariant-loop-clause : goal.invariant-loop-clause
invariant-loop-clause l = Noting l.seen (soft_ordinals l.clauses) (soft_ordinals l.clause-iterator)
