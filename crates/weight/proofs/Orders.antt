-- What the laws of a kind give of its order and its zero. Assumes nothing.
use Rattle.std.proofs.Common.{◌≡◌, true, false, ◌∙◌, ⊎_elim}
use Rattle.std.proofs.lemmas.Bool.{both_ways}
use Rattle.weight.specs.Kind.{Kind, Lawful}

module _ {V : Type 0} {k : Kind V} (laws : Lawful k) where
  pub order_refl : (x : V) → k.at_most x x ≡ true
  order_refl x = ⊎_elim (λ h. h) (λ h. h) (laws.total x x)

  pub order_other : (x y : V) → k.at_most x y ≡ false → k.at_most y x ≡ true
  order_other x y fails = ⊎_elim (λ h. absurd (both_ways (k.at_most x y) fails h)) (λ h. h) (laws.total x y)

  pub zero_sum : (x : V) → k.sum k.zero x ≡ x
  zero_sum x = laws.sum_comm k.zero x ∙ laws.sum_zero x
