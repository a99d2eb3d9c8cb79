-- What the laws of a kind give of an exact total, and of a loop that adds it up. Assumes nothing.
use Rattle.std.proofs.Common.{◌≡◌, ℕ, ◌+◌, ◌<◌, ◌≤◌, true, false, List, [], ◌∷◌, ◌++◌, length, get_or, take, drop, sym, ap, ◌∙◌, inl, inr, take-append-drop, take_all}
use Rattle.std.proofs.lemmas.List.{take_more}
use Rattle.std.proofs.lemmas.Bool.{cases_Bool, both_ways}
use Rattle.weight.specs.Kind.{Kind, Lawful, total_of}
use Rattle.weight.proofs.Orders.{zero_sum}

module _ {V : Type 0} {k : Kind V} (laws : Lawful k) {X : Type 0} (worth : X → V) where
  pub total_append : (xs ys : List X) → total_of k worth (xs ++ ys) ≡ k.sum (total_of k worth xs) (total_of k worth ys)
  total_append [] ys = sym (zero_sum laws (total_of k worth ys))
  total_append (x ∷ xs) ys = ap (k.sum (worth x)) (total_append xs ys) ∙ sym (laws.sum_assoc (worth x) (total_of k worth xs) (total_of k worth ys))

  -- one more at the end
  pub total_more : (xs : List X) (i : ℕ) (x : X) → i < length xs → x ≡ get_or xs i x → k.sum (total_of k worth (take i xs)) (worth x) ≡ total_of k worth (take (i + 1) xs)
  total_more xs i x inside read =
      let pushed : take (i + 1) xs ≡ take i xs ++ (x ∷ []) = take_more xs i x inside ∙ ap (λ y. take i xs ++ (y ∷ [])) (sym read) in
      sym (ap (total_of k worth) pushed ∙ total_append (take i xs) (x ∷ []) ∙ ap (k.sum (total_of k worth (take i xs))) (laws.sum_zero (worth x)))

  -- where a front passes the ceiling, the whole does
  pub front_passes : (xs : List X) (n : ℕ) → k.within (total_of k worth (take n xs)) ≡ false → k.within (total_of k worth xs) ≡ false
  front_passes xs n past =
      let front = total_of k worth (take n xs) in
      let rest = total_of k worth (drop n xs) in
      let split : total_of k worth xs ≡ k.sum front rest = ap (total_of k worth) (sym (take-append-drop n xs)) ∙ total_append (take n xs) (drop n xs) in
      elim (cases_Bool (k.within (total_of k worth xs))) [
        | inl h ↦ absurd (both_ways (k.within front) past (laws.part_within front rest (ap k.within (sym split) ∙ h)))
        | inr h ↦ h
      ]

  -- v is the exact total of all, and within the ceiling
  abbrev pub WholeTotal : List X → V → Type 0
  WholeTotal xs v = (k.within (total_of k worth xs) ≡ true) × (v ≡ total_of k worth xs)

  -- A loop has come to the i-th of xs, with a sum that means v and is within the ceiling; at the end that is the whole total.
  abbrev pub SoFar : List X → ℕ → V → Type 0
  SoFar xs i v = (v ≡ total_of k worth (take i xs)) × (k.within v ≡ true) × (length xs ≤ i → WholeTotal xs v)

  so_far : (xs : List X) (i : ℕ) (v : V) → v ≡ total_of k worth (take i xs) → k.within v ≡ true → SoFar xs i v
  so_far xs i v is fits = (is, fits, λ end. let all = is ∙ ap (total_of k worth) (take_all i xs end) in (ap k.within (sym all) ∙ fits, all))

  module _ (xs : List X) (i : ℕ) (v : V) (x : X) (here : SoFar xs i v) (inside : i < length xs) (read : x ≡ get_or xs i x) where
    next : k.sum v (worth x) ≡ total_of k worth (take (i + 1) xs)
    next = ap (λ u. k.sum u (worth x)) here.0 ∙ total_more xs i x inside read

    pub so_far_more : (u : V) → (k.within (k.sum v (worth x)) ≡ true) × (u ≡ k.sum v (worth x)) → SoFar xs (i + 1) u
    so_far_more u came = so_far xs (i + 1) u (came.1 ∙ next) (ap k.within came.1 ∙ came.0)

    pub so_far_past : k.within (k.sum v (worth x)) ≡ false → k.within (total_of k worth xs) ≡ false
    so_far_past past = front_passes xs (i + 1) (ap k.within (sym next) ∙ past)
