-- The part of a list between two places: where it begins, ends and is cut; and what stands behind a place. Assumes nothing.
use Rattle.std.proofs.Common.{◌≡◌, ℕ, suc, ◌+◌, ◌-◌, ◌<◌, ◌≤◌, List, [], ◌∷◌, ◌++◌, length, get_or, take, drop, sym, ap, ◌∙◌, arith}
use Rattle.std.specs.List.{between}
use Rattle.std.proofs.lemmas.List.{drop_at, drop-drop, drop_more, length-append, length-take, take-append-drop, take_at, take-take}
use Rattle.std.proofs.lemmas.List.Edits.{get_or-between}
use Rattle.std.proofs.lemmas.Slice.{between_is}

-- lists that agree from one place on agree from every later one
pub drop_later : {X : Type 0} (xs ys : List X) (i j : ℕ) → i ≤ j → drop i xs ≡ drop i ys → drop j xs ≡ drop j ys
drop_later xs ys i j order same =
    let gap : i + (j - i) ≡ j = omega arith in
    ap (λ n. drop n xs) (sym gap) ∙ sym (drop-drop (j - i) i xs) ∙ ap (drop (j - i)) same ∙ drop-drop (j - i) i ys ∙ ap (λ n. drop n ys) gap

module _ {X : Type 0} (xs : List X) where
  pub between_zero : (n : ℕ) → between 0 n xs ≡ take n xs
  between_zero n = ap (λ k. take k xs) (omega arith)

  pub between_end : (i j : ℕ) → j ≤ i → between i j xs ≡ []
  between_end i j past = let none : j - i ≡ 0 = omega arith in rw none

  pub between_cons : (i j : ℕ) (d : X) → i < j → j ≤ length xs → between i j xs ≡ get_or xs i d ∷ between (i + 1) j xs
  between_cons i j d less fits =
      let inside : i < length xs = omega arith in
      let one : j - i ≡ suc (j - (i + 1)) = omega arith in
      rw (drop_more xs i d inside, one)

  pub between_first : (i j : ℕ) (d x : X) (ys : List X) → i < j → between i j xs ≡ x ∷ ys → get_or xs i d ≡ x
  between_first i j d x ys less begins =
      ap (λ k. get_or xs k d) (omega arith) ∙ sym (get_or-between xs i j 0 d (omega arith)) ∙ ap (λ zs. get_or zs 0 d) begins

  take_between : (i n k : ℕ) → i + n ≤ k → take n (between i k xs) ≡ between i (i + n) xs
  take_between i n k fits =
      let count : (i + n) - i ≡ n = omega arith in
      let less : n ≤ k - i = omega arith in
      rw count (take-take n (k - i) (drop i xs) less)

  drop_between : (i n k : ℕ) → drop n (between i k xs) ≡ between (i + n) k xs
  drop_between i n k = rw (between_is xs i k, between_is xs (i + n) k) (drop-drop n i (take k xs))

  -- a part that is two lists end to end is cut where the first ends
  module _ (i j k : ℕ) (front back : List X) (whole : between i k xs ≡ front ++ back) (seam : j ≡ i + length front) where
    pub cut_front : i ≤ k → between i j xs ≡ front
    cut_front order =
        let sum : length (between i k xs) ≡ length front + length back = ap length whole ∙ length-append front back in
        let fits : i + length front ≤ k = omega (arith, length-take (k - i) (drop i xs)) in
        ap (λ n. between i n xs) seam ∙ sym (take_between i (length front) k fits) ∙ ap (take (length front)) whole ∙ take_at front back (length front) (omega arith)

    pub cut_back : between j k xs ≡ back
    cut_back = ap (λ n. between n k xs) seam ∙ sym (drop_between i (length front) k) ∙ ap (drop (length front)) whole ∙ drop_at front back (length front) (omega arith)

  pub between_join : (i j k : ℕ) → i ≤ j → j ≤ k → between i k xs ≡ between i j xs ++ between j k xs
  between_join i j k before behind =
      let seam : i + (j - i) ≡ j = omega arith in
      sym (take-append-drop (j - i) (between i k xs))
      ∙ ap (λ ys. ys ++ drop (j - i) (between i k xs)) (take_between i (j - i) k (omega arith) ∙ ap (λ n. between i n xs) seam)
      ∙ ap (λ ys. between i j xs ++ ys) (drop_between i (j - i) k ∙ ap (λ n. between n k xs) seam)

  pub take_parts : (i j : ℕ) → i ≤ j → take j xs ≡ take i xs ++ between i j xs
  take_parts i j order =
      sym (between_zero j) ∙ between_join 0 i j (omega arith) order ∙ ap (λ ys. ys ++ between i j xs) (between_zero i)
