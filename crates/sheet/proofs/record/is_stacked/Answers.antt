use Rattle.std.proofs.Common.{sym, subst, rules}
use Rattle.std.proofs.lemmas.List.{nil_from_length}
use Rattle.sheet.specs.Records.{Stacked}
use Rattle.sheet.proofs.Deciding.{accepts}
use Rattle.sheet.proofs.Stacking.{stacked_nil}
use Rattle.sheet.proofs.record.is_stacked.Goals as goal

pub returns : goal.returns
returns c = accepts (c.loop-rest.invariant.0 (subst (λ ws. Stacked ws) (sym (nil_from_length _ (search rules))) stacked_nil))
