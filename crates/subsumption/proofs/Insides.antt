-- A merge that looks whether ascending words are among others. Assumes nothing.
use Rattle.std.proofs.Common.{◌≡◌, ℕ, zero, suc, ◌+◌, ◌<◌, ◌≤◌, false, ◌&&◌, eqb, List, [], ◌∷◌, length, get_or, drop, sym, refl, ap, subst, arith}
use Rattle.std.specs.List.{AllByRecursion}
use Rattle.std.proofs.lemmas.List.{drop_more, drop_all}
use Rattle.std.proofs.ByRecursion.{All-weaker}
use Rattle.std.proofs.lemmas.Bool.{ne_eqb, eq-eqb}
use Rattle.std.proofs.lemmas.Bool.Decides.{nat_tests}
use Rattle.sheet.specs.Literals.{has, Rising}
use Rattle.steps.specs.Rewriting.{inside}

rising_drop : (n : ℕ) (ws : List ℕ) → Rising ws → Rising (drop n ws)
rising_drop zero ws up = up
rising_drop (suc n) [] up = tt
rising_drop (suc n) (w ∷ ws) up = rising_drop n ws up.1

-- a word below all others is none of them
has_below : (w : ℕ) (ws : List ℕ) → AllByRecursion (λ x. w < x) ws → has w ws ≡ false
has_below w [] above = refl
has_below w (x ∷ xs) above = let rest = has_below w xs above.1 in let less = above.0 in grind (arith, nat_tests)

-- and none of them is missed without it
inside_skip : (y : ℕ) (xs ys : List ℕ) → AllByRecursion (λ x. y < x) xs → inside xs (y ∷ ys) ≡ inside xs ys
inside_skip y [] ys above = refl
inside_skip y (x ∷ xs) ys above =
    let rest = inside_skip y xs ys above.1 in
    let less = above.0 in
    let other = ne_eqb y x (λ same. omega arith) in
    rw (rest, other)

-- none is left to look at
pub inside_past : (xs ys : List ℕ) (i : ℕ) → length ys ≤ i → eqb (length xs) 0 ≡ inside xs (drop i ys)
inside_past [] ys i past = refl
inside_past (x ∷ xs) ys i past = rw (drop_all i ys past) (ne_eqb (length (x ∷ xs)) 0 (λ none. omega arith))

-- The words from i on of ys are looked at, and x and xs are left.
module _ (x : ℕ) (xs ys : List ℕ) (i : ℕ) (more : i < length ys) where
  pub inside_stop : Rising ys → x < get_or ys i 0 → inside (x ∷ xs) (drop i ys) ≡ false
  inside_stop up less =
      let here = drop_more ys i 0 more in
      let rest = rw here at (rising_drop i ys up) in
      let none = has_below x (get_or ys i 0 ∷ drop (i + 1) ys) (less, All-weaker _ _ (λ z above. omega arith) (drop (i + 1) ys) rest.0) in
      rw here (ap (λ b. b && inside xs (get_or ys i 0 ∷ drop (i + 1) ys)) none)

  pub inside_behind : Rising (x ∷ xs) → get_or ys i 0 < x → inside (x ∷ xs) (drop i ys) ≡ inside (x ∷ xs) (drop (i + 1) ys)
  inside_behind up less = rw (drop_more ys i 0 more) (inside_skip (get_or ys i 0) (x ∷ xs) (drop (i + 1) ys) (less, All-weaker _ _ (λ z above. omega arith) xs up.0))

  pub inside_both : Rising (x ∷ xs) → x ≡ get_or ys i 0 → inside (x ∷ xs) (drop i ys) ≡ inside xs (drop (i + 1) ys)
  inside_both up same =
      let found = eq-eqb (get_or ys i 0) x (sym same) in
      rw (drop_more ys i 0 more, found) (inside_skip (get_or ys i 0) xs (drop (i + 1) ys) (subst (λ z. AllByRecursion (λ w. z < w) xs) same up.0))
