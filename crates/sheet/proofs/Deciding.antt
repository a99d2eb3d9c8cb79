-- A test that has come to its answer decides. Assumes nothing.
use Rattle.std.proofs.Common.{true, false, Decides, refl}
use Rattle.std.proofs.lemmas.Bool.{both_ways}

pub accepts : {P : Type 0} → P → Decides true P
accepts p = (λ _. p, λ _. refl)

pub refuses : {P : Type 0} → (P → ⊥) → Decides false P
refuses fails = (λ e. absurd (both_ways false refl e), λ p. absurd (fails p))
