use Rattle.std.proofs.Common.{◌≡◌, ◌+◌, [], length}
use Rattle.std.specs.List.{AllByRecursion}
use Rattle.sheet.specs.Clauses.{Valid}
use Rattle.sheet.specs.Literals.{opposite}
use Rattle.steps.specs.Elimination.{resolvents}
use Rattle.steps.specs.Rewriting.{having}
use Rattle.elimination.proofs.Pairing.{resolvents_from}
use Rattle.elimination.proofs.count.is_bounded.Given as goal

abbrev pub invariant-loop-clause : goal.invariant-loop-clause
invariant-loop-clause l = record {
  clear : l.marked ≡ [];
  valid : AllByRecursion Valid l.clause-iterator;
  rest : l.rest + length (resolvents l.x l.clauses) ≡ (length (having l.x l.clauses) + length (having (opposite l.x) l.clauses)) + length (resolvents_from l.x l.clauses l.clause-iterator);
}
