use Rattle.std.specs.List.{AllByRecursion}
use Rattle.sheet.specs.Clauses.{Valid}
use Rattle.sheet.specs.Records.{encode_stack}
use Rattle.steps.specs.Elimination.{elimination_records}
use Rattle.elimination.proofs.Appending.{Writing}
use Rattle.elimination.proofs.records.push_all.Given as goal

abbrev pub invariant-loop-clause : goal.invariant-loop-clause
invariant-loop-clause l = record {
  valid : AllByRecursion Valid l.clause-iterator;
  writing : Writing l.initial.free l.free l.n (encode_stack (elimination_records l.x l.clause-iterator)) (encode_stack (elimination_records l.x l.clauses));
}
