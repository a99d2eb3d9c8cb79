use Rattle.std.proofs.Common.{◌≡◌, drop}
use Rattle.sheet.specs.Literals.{Rising}
use Rattle.steps.specs.Rewriting.{inside}
use Rattle.subsumption.proofs.is_inside.Given as goal

abbrev pub invariant-loop-w : goal.invariant-loop-w
invariant-loop-w l = Rising l.left × (inside l.left (drop l.w-index l.sup) ≡ inside l.sub l.sup)
