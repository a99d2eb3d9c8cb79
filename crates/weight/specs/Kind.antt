-- A kind of weight: how the values of weights add, compare and are limited, and the laws of that. Assumes nothing.
use Rattle.std.specs.Prelude.{◌≡◌, Bool, true, false, ◌⊎◌, List, [], ◌∷◌, Ok, Err, Result}

pub record Kind (V : Type 0) : Type 0 where
  pub zero : V
  pub sum : V → V → V
  -- the first is at most the second
  pub at_most : V → V → Bool
  -- does not pass the ceiling
  pub within : V → Bool

pub record Lawful {V : Type 0} (k : Kind V) : Type 0 where
  pub sum_comm : (x y : V) → k.sum x y ≡ k.sum y x
  pub sum_assoc : (x y z : V) → k.sum (k.sum x y) z ≡ k.sum x (k.sum y z)
  pub sum_zero : (x : V) → k.sum x k.zero ≡ x
  pub total : (x y : V) → (k.at_most x y ≡ true) ⊎ (k.at_most y x ≡ true)
  pub trans : (x y z : V) → k.at_most x y ≡ true → k.at_most y z ≡ true → k.at_most x z ≡ true
  pub antisym : (x y : V) → k.at_most x y ≡ true → k.at_most y x ≡ true → x ≡ y
  pub zero_least : (x : V) → k.at_most k.zero x ≡ true
  pub zero_within : k.within k.zero ≡ true
  pub sum_keeps : (x y z : V) → k.at_most x y ≡ true → k.at_most (k.sum x z) (k.sum y z) ≡ true
  -- with sum_comm, of each part
  pub part_within : (x y : V) → k.within (k.sum x y) ≡ true → k.within x ≡ true

-- the exact sum of what the elements of a list are worth
abbrev pub total_of : {V X : Type 0} → Kind V → (X → V) → List X → V
total_of k worth [] = k.zero
total_of k worth (x ∷ xs) = k.sum (worth x) (total_of k worth xs)

-- What is answered for a sum whose exact value is `exact`: a weight that means it, or an error exactly where it passes the ceiling.
abbrev pub ExactOrTooLarge : {V W E : Type 0} → Kind V → (W → V) → V → Result W E → Type 0
ExactOrTooLarge k value exact (Ok w) = (k.within exact ≡ true) × (value w ≡ exact)
ExactOrTooLarge k value exact (Err e) = k.within exact ≡ false
