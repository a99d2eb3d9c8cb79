use Rattle.std.proofs.Common.{length}
use Rattle.sheet.specs.Clauses.{Laid}
use Rattle.sheet.proofs.clause.is_laid.Given as goal

abbrev pub invariant-loop-header : goal.invariant-loop-header
invariant-loop-header l = (Laid l.rest → Laid l.words) × (Laid l.words → Laid l.rest)

abbrev pub decreases-loop-header : goal.decreases-loop-header
decreases-loop-header l = length l.rest
