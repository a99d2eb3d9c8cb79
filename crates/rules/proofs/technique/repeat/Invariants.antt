use Rattle.std.proofs.Common.{◌-◌}
use Rattle.sheet.specs.Lending.{SameLoans, lent_on}
use Rattle.rules.proofs.Stepping.{Stepping}
use Rattle.rules.proofs.technique.repeat.Given as goal

abbrev pub invariant-loop-place : goal.invariant-loop-place
invariant-loop-place g l =
    let m = g.W.Weight in
    Stepping m g.met.W.Weight.lawful (g.T.Technique.step m.Value m.kind) (g.T.Technique.fits m.Value m.kind) g.met.T.Technique.keeps l.limit (lent_on l.initial.desk) (lent_on l.desk) l.steps
    × g.T.Technique.ready l.technique (lent_on l.desk)
    × SameLoans l.initial.desk l.desk

abbrev pub decreases-loop-place : goal.decreases-loop-place
decreases-loop-place g l = l.limit - l.steps
