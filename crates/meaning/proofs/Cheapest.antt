-- Among the values that pass a test some cost least, where only finitely many items count. Assumes nothing.
use Rattle.std.proofs.Common.{◌≡◌, ℕ, zero, suc, Bool, true, false, cond, eqb, ◌⊎◌, sym, refl, ap, ◌∙◌, subst, inl, inr, arith}
use mathlib.Core.Path.{fun_ext}
use Rattle.std.proofs.lemmas.Bool.{both_ways, cases_Bool, cases_eq, eq-eqb, ne_eqb, cond-true, cond-false}
use Rattle.weight.specs.Kind.{Kind, Lawful}
use Rattle.weight.proofs.Orders.{order_refl}
use Rattle.meaning.specs.Answers.{Values, AtMost}
use Rattle.meaning.proofs.Agreement.{Below}

-- v with the value b at n
abbrev pub put : Values → ℕ → Bool → Values
put v n b = λ i. cond (eqb i n) b (v i)

pub put_here : (v : Values) (n : ℕ) (b : Bool) → put v n b n ≡ b
put_here v n b = cond-true (eqb n n) b (v n) (eq-eqb n n refl)

pub put_other : (v : Values) (n : ℕ) (b : Bool) (i : ℕ) → (i ≡ n → ⊥) → put v n b i ≡ v i
put_other v n b i other = cond-false (eqb i n) b (v i) (ne_eqb i n other)

put_same : (v : Values) (n : ℕ) → put v n (v n) ≡ v
put_same v n = fun_ext (λ i. elim (cases_eq i n) [
  | inl here ↦ rw here (put_here v n (v n))
  | inr other ↦ put_other v n (v n) i other
])

put_below : (n : ℕ) (b : Bool) (u v : Values) → Below n u v → Below (suc n) (put u n b) (put v n b)
put_below n b u v same i low = elim (cases_eq i n) [
  | inl here ↦ rw here (put_here u n b ∙ sym (put_here v n b))
  | inr other ↦ put_other u n b i other ∙ same i (omega arith) ∙ sym (put_other v n b i other)
]

-- values have no or yes at n
by_half : (n : ℕ) (Q : Values → Type 0) → ((u : Values) → Q (put u n false)) → ((u : Values) → Q (put u n true)) → (u : Values) → Q u
by_half n Q if_no if_yes u = subst Q (put_same u n) (elim (u n) as (λ b. Q (put u n b)) [ true ↦ if_yes u | false ↦ if_no u ])

-- none passes, or one that passes costs no more than any other that does
abbrev pub Cheapest : {V : Type 0} → Kind V → (Values → Bool) → (Values → V) → Type 0
Cheapest k passes price = ((v : Values) → passes v ≡ true → ⊥) ⊎ ((v : Values) × (passes v ≡ true) × ((u : Values) → passes u ≡ true → AtMost k (price v) (price u)))

module _ {V : Type 0} {k : Kind V} (laws : Lawful k) where
  -- the cheaper of the two halves
  of_halves : (n : ℕ) (passes : Values → Bool) (price : Values → V) → Cheapest k (λ v. passes (put v n false)) (λ v. price (put v n false)) → Cheapest k (λ v. passes (put v n true)) (λ v. price (put v n true)) → Cheapest k passes price
  of_halves n passes price (inl a) (inl b) = inl (by_half n _ a b)
  of_halves n passes price (inl a) (inr b) = inr (put b.0 n true, b.1, by_half n _ (λ u p. absurd (a u p)) b.2)
  of_halves n passes price (inr a) (inl b) = inr (put a.0 n false, a.1, by_half n _ a.2 (λ u p. absurd (b u p)))
  of_halves n passes price (inr a) (inr b) = elim (laws.total (price (put a.0 n false)) (price (put b.0 n true))) [
    | inl less ↦ inr (put a.0 n false, a.1, by_half n _ a.2 (λ u p. laws.trans _ _ _ less (b.2 u p)))
    | inr less ↦ inr (put b.0 n true, b.1, by_half n _ (λ u p. laws.trans _ _ _ less (a.2 u p)) b.2)
  ]

  pub cheapest : (n : ℕ) (passes : Values → Bool) (price : Values → V) → ((u v : Values) → Below n u v → (passes u ≡ passes v) × (price u ≡ price v)) → Cheapest k passes price
  cheapest zero passes price counts =
      let o : Values = λ i. false in
      let one : (u : Values) → (passes u ≡ passes o) × (price u ≡ price o) = λ u. counts u o (λ i low. absurd (omega arith)) in
      elim (cases_Bool (passes o)) [
        | inl yes' ↦ inr (o, yes', λ u p. ap (k.at_most (price o)) (one u).1 ∙ order_refl laws (price o))
        | inr no' ↦ inl (λ v p. both_ways (passes v) ((one v).0 ∙ no') p)
      ]
  cheapest (suc n) passes price counts =
      let half : (b : Bool) → Cheapest k (λ v. passes (put v n b)) (λ v. price (put v n b)) = λ b. cheapest n _ _ (λ u v same. counts (put u n b) (put v n b) (put_below n b u v same)) in
      of_halves n passes price (half false) (half true)
