-- A search for the first that passes a test. Assumes nothing.
use Rattle.std.proofs.Common.{◌≡◌, ℕ, ◌≤◌, Bool, false, ltb, List, [], ◌∷◌, None, position, inl, inr, arith}
use Rattle.std.specs.List.{AllByRecursion}
use Rattle.std.proofs.ByRecursion.{All-weaker}
use Rattle.std.proofs.lemmas.Bool.{cases_Bool, ltb-false}
use Rattle.std.proofs.lemmas.Grind.{common_steps}
use Rattle.unwinding.specs.Bytes.{Bits, first_above_one}

-- where none is found all fail
pub all_from_none : {X : Type 0} (test : X → Bool) (xs : List X) → position test xs ≡ None → AllByRecursion (λ x. test x ≡ false) xs
all_from_none test [] found = tt
all_from_none test (x ∷ xs) found = elim (cases_Bool (test x)) [
  | inl passes ↦ absurd (grind (arith, common_steps))
  | inr fails ↦ (fails, all_from_none test xs (grind (arith, common_steps)))
]

pub bits_from_none : (bs : List ℕ) → first_above_one bs ≡ None → Bits bs
bits_from_none bs found = All-weaker (λ b. ltb 1 b ≡ false) (λ b. b ≤ 1) (λ b small. ltb-false 1 b small) bs (all_from_none (ltb 1) bs found)
