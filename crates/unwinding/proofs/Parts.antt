-- Parts of a sum, by the laws of a kind of weight. Assumes nothing.
use Rattle.std.proofs.Common.{◌≡◌, ℕ, zero, suc, ◌<◌, true, List, [], ◌∷◌, length, set, sym, refl, ap, ◌∙◌, subst, arith}
use Rattle.std.specs.List.{AllByRecursion}
use Rattle.std.proofs.lemmas.List.{length-set, get_or-set_other}
use Rattle.std.proofs.ByRecursion.{All-weaker}
use Rattle.weight.specs.Kind.{Kind, Lawful, total_of}
use Rattle.weight.proofs.Orders.{zero_sum}
use Rattle.sheet.specs.Together.{Distinct}
use Rattle.meaning.specs.Answers.{weight_of}

-- with some rest the one is the other
abbrev pub Part : {V : Type 0} → Kind V → V → V → Type 0
Part {V} k x y = (rest : V) × (k.sum x rest ≡ y)

module _ {V : Type 0} {k : Kind V} (laws : Lawful k) where
  pub part_within : {x y : V} → Part k x y → k.within y ≡ true → k.within x ≡ true
  part_within {x} {y} p h = laws.part_within x p.0 (ap k.within p.1 ∙ h)

  pub part_zero : (x : V) → Part k k.zero x
  part_zero x = (x, zero_sum laws x)

  pub part_self : (x : V) → Part k x x
  part_self x = (k.zero, laws.sum_zero x)

  pub part_trans : {x y z : V} → Part k x y → Part k y z → Part k x z
  part_trans {x} {y} {z} p q = (k.sum p.0 q.0, sym (laws.sum_assoc x p.0 q.0) ∙ ap (λ u. k.sum u q.0) p.1 ∙ q.1)

  -- sums of parts, crosswise
  swap : (a b c d : V) → k.sum (k.sum a b) (k.sum c d) ≡ k.sum (k.sum a c) (k.sum b d)
  swap a b c d =
      laws.sum_assoc a b (k.sum c d)
      ∙ ap (k.sum a) (sym (laws.sum_assoc b c d) ∙ ap (λ u. k.sum u d) (laws.sum_comm b c) ∙ laws.sum_assoc c b d)
      ∙ sym (laws.sum_assoc a c (k.sum b d))

  pub part_sum : {x y u w : V} → Part k x y → Part k u w → Part k (k.sum x u) (k.sum y w)
  part_sum {x} {y} {u} {w} p q = (k.sum p.0 q.0, swap x u p.0 q.0 ∙ ap (λ z. k.sum z (k.sum u q.0)) p.1 ∙ ap (k.sum y) q.1)

  -- one element out of a total
  total_without : (xs : List V) (n : ℕ) → n < length xs → k.sum (weight_of k xs n) (total_of k (λ x. x) (set xs n k.zero)) ≡ total_of k (λ x. x) xs
  total_without [] n inside = absurd (omega arith)
  total_without (x ∷ xs) zero inside = ap (k.sum x) (zero_sum laws (total_of k (λ x. x) xs))
  total_without (x ∷ xs) (suc n) inside =
      let w = weight_of k xs n in
      let rest = total_of k (λ x. x) (set xs n k.zero) in
      sym (laws.sum_assoc w x rest) ∙ ap (λ u. k.sum u rest) (laws.sum_comm w x) ∙ laws.sum_assoc x w rest ∙ ap (k.sum x) (total_without xs n (omega arith))

  total_same : (f g : ℕ → V) (ns : List ℕ) → AllByRecursion (λ n. f n ≡ g n) ns → total_of k f ns ≡ total_of k g ns
  total_same f g [] h = refl
  total_same f g (n ∷ ns) h = ap (λ u. k.sum u (total_of k f ns)) h.0 ∙ ap (k.sum (g n)) (total_same f g ns h.1)

  -- distinct places pick a part of the total
  pub distinct_part : (ns : List ℕ) (xs : List V) → Distinct ns → AllByRecursion (λ n. n < length xs) ns → Part k (total_of k (weight_of k xs) ns) (total_of k (λ x. x) xs)
  distinct_part [] xs apart inside = part_zero (total_of k (λ x. x) xs)
  distinct_part (n ∷ ns) xs apart inside =
      let others : List V = set xs n k.zero in
      let picked = distinct_part ns others apart.1 (subst (λ m. AllByRecursion (λ j. j < m) ns) (sym (length-set xs n k.zero)) inside.1) in
      let same = total_same (weight_of k others) (weight_of k xs) ns (All-weaker _ _ (λ j other. get_or-set_other xs n j k.zero k.zero (λ e. other (sym e))) ns apart.0) in
      subst (Part k _) (total_without xs n inside.0) (part_sum (part_self (weight_of k xs n)) (subst (λ x. Part k x (total_of k (λ x. x) others)) same picked))
