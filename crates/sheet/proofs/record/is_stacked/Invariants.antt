use Rattle.std.proofs.Common.{length}
use Rattle.sheet.specs.Records.{Stacked}
use Rattle.sheet.proofs.record.is_stacked.Given as goal

abbrev pub invariant-loop-rest : goal.invariant-loop-rest
invariant-loop-rest l = (Stacked l.rest → Stacked l.words) × (Stacked l.words → Stacked l.rest)

abbrev pub decreases-loop-rest : goal.decreases-loop-rest
decreases-loop-rest l = length l.rest
