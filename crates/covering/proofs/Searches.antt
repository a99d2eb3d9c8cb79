-- A search by a counter for the lowest item that passes a test. Assumes nothing.
use Rattle.std.proofs.Common.{◌≡◌, ℕ, suc, ◌+◌, ◌-◌, ◌<◌, ◌≤◌, Bool, true, false, cond, ◌&&◌, List, [], ◌∷◌, Some, None, sym, refl, ap, ◌∙◌, add-one, arith}
use Rattle.std.specs.List.{list_all}
use Rattle.std.proofs.lemmas.Bool.{cond-true, cond-false}
use Rattle.steps.specs.Places.{every, lowest_item}

module _ (test : ℕ → Bool) (end i : ℕ) where
  -- the items from i up to `end` are left
  pub lowest_none : end ≤ i → lowest_item test i (end - i) ≡ None
  lowest_none past = let none : end - i ≡ 0 = omega arith in rw none

  module _ (within : i < end) where
    split : lowest_item test i (end - i) ≡ cond (test i) (Some i) (lowest_item test (i + 1) (end - (i + 1)))
    split =
        let one : end - i ≡ suc (end - (i + 1)) = omega arith in
        rw one (ap (λ j. cond (test i) (Some i) (lowest_item test j (end - (i + 1)))) (sym (add-one i)))

    pub lowest_here : test i ≡ true → lowest_item test i (end - i) ≡ Some i
    lowest_here passes = split ∙ cond-true (test i) _ _ passes

    pub lowest_more : test i ≡ false → lowest_item test (i + 1) (end - (i + 1)) ≡ lowest_item test i (end - i)
    lowest_more fails = sym (split ∙ cond-false (test i) _ _ fails)

-- `all`, by the definition here
pub every_is_all : {X : Type 0} (test : X → Bool) (xs : List X) → list_all test xs ≡ every test xs
every_is_all test [] = refl
every_is_all test (x ∷ xs) = ap (λ b. test x && b) (every_is_all test xs)
