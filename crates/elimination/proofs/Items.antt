-- The search for the lowest item. Assumes nothing.
use Rattle.std.proofs.Common.{◌≡◌, ℕ, suc, ◌+◌, ◌-◌, ◌≤◌, Bool, false, Some, ap, ◌∙◌, arith}
use Rattle.std.proofs.lemmas.Bool.{cond-false}
use Rattle.steps.specs.Places.{lowest_item}

-- the items from x up to `last`
module _ (test : ℕ → Bool) (x last : ℕ) (inside : x ≤ last) where
  one_more : (last + 1) - x ≡ suc ((last + 1) - (x + 1))
  one_more = omega arith

  pub lowest_later : test x ≡ false → lowest_item test x ((last + 1) - x) ≡ lowest_item test (x + 1) ((last + 1) - (x + 1))
  lowest_later fails =
      let next : suc x ≡ x + 1 = omega arith in
      ap (lowest_item test x) one_more ∙ cond-false (test x) (Some x) (lowest_item test (suc x) ((last + 1) - (x + 1))) fails ∙ ap (λ i. lowest_item test i ((last + 1) - (x + 1))) next
