-- A search for a cause that finds none. Assumes nothing.
use Rattle.std.proofs.Common.{◌≡◌, ℕ, Bool, true, false, Some, None, Ok, Err, Option, Result, refl, sym, ap, arith}
use Rattle.std.specs.Option.{option_map}
use Rattle.std.proofs.lemmas.Bool.{true≢false}
use Rattle.session.specs.Refusing.{ok_unless, or_else}

pub some_none : {X : Type 0} {x : X} → Some x ≡ None → ⊥
some_none e = let z : ◌≡◌ {A = ℕ} 0 1 = cc in omega arith

-- neither of two is there
pub neither : {X : Type 0} (x y : Option X) → or_else x y ≡ None → (x ≡ None) × (y ≡ None)
neither None y nothing = (refl, nothing)
neither (Some x) y nothing = absurd (some_none nothing)

pub none_mapped : {X Y : Type 0} (f : X → Y) (x : Option X) → option_map f x ≡ None → x ≡ None
none_mapped f None nothing = refl
none_mapped f (Some x) nothing = absurd (some_none nothing)

-- What a call that asks for a cause answers tells whether there is one.

abbrev is_passed : {X : Type 0} → Result (Unit {0}) X → Bool
is_passed (Ok u) = true
is_passed (Err e) = false

abbrev refusal_or : {X : Type 0} → X → Result (Unit {0}) X → X
refusal_or x (Ok u) = x
refusal_or x (Err e) = e

pub none_from_ok : {X : Type 0} (o : Option X) {u : Unit {0}} → ok_unless o ≡ Ok u → o ≡ None
none_from_ok None passed = refl
none_from_ok (Some x) passed = absurd (true≢false (sym (ap is_passed passed)))

pub some_from_err : {X : Type 0} (o : Option X) {e : X} → ok_unless o ≡ Err e → o ≡ Some e
some_from_err None refused = absurd (true≢false (ap is_passed refused))
some_from_err (Some x) refused = ap (λ r. Some (refusal_or x r)) refused
