use Rattle.std.proofs.Common.{◌≡◌}
use Rattle.steps.specs.Propagation.{first_unit}
use Rattle.propagation.proofs.first_unit.Given as goal

abbrev pub invariant-loop-clause : goal.invariant-loop-clause
invariant-loop-clause l = first_unit l.clause-iterator ≡ first_unit l.clauses
