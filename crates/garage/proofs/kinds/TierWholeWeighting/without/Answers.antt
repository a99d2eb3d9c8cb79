-- Where one part cannot be made, neither can the pair.
use Rattle.std.proofs.Common.{ap}
use Rattle.garage.proofs.kinds.TierWholeWeighting.without.Goals as goal

pub returns-in_err-above : goal.returns-in_err-above
returns-in_err-above c = rw c.from_residual.ensures (λ v e. c.in_err-above.ensures v.0 (ap (λ x. x.0) e))

pub returns-in_err-below : goal.returns-in_err-below
returns-in_err-below c = rw c.from_residual-in_err-below.ensures (λ v e. c.in_err-below.ensures v.1 (ap (λ x. x.1) e))
