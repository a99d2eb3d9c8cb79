-- Tiers are lawful over every lawful kind. Assumes nothing.
use Rattle.std.specs.Prelude.{◌≡◌, ℕ, ◌+◌, ◌<◌, true, ◌⊎◌, nat_le}
use Rattle.std.proofs.Common.{inl, inr, ⊎_elim, arith}
use Rattle.std.proofs.lemmas.Bool.{leb-true, le-leb, ltb-true, lt-ltb, eqb-true, eq-eqb, or_cases, or_left, or_right, and_parts, and_from, cases_order}
use Rattle.weight.specs.Kind.{Kind, Lawful}
use Rattle.weight.specs.Wholes.{ceiling}
use Rattle.weight.specs.Tiers.{tiers}

both : {A B : Type 0} {a c : A} {b d : B} → a ≡ c → b ≡ d → ◌≡◌ {A = A × B} (a, b) (c, d)
both p q = cc

module _ {V : Type 0} {k : Kind V} (laws : Lawful k) where
  -- "at most" of two tiers, in words: less above, or equal above and at most below
  abbrev Ordered : ℕ × V → ℕ × V → Type 0
  Ordered x y = (x.0 < y.0) ⊎ ((x.0 ≡ y.0) × (k.at_most x.1 y.1 ≡ true))

  ordered : (x y : ℕ × V) → (tiers k).at_most x y ≡ true → Ordered x y
  ordered x y p =
      ⊎_elim
      (λ h. inl (ltb-true x.0 y.0 h))
      (λ h. let q = and_parts _ _ h in inr (eqb-true x.0 y.0 q.0, q.1))
      (or_cases _ _ p)

  at_most_lem : (x y : ℕ × V) → Ordered x y → (tiers k).at_most x y ≡ true
  at_most_lem x y p =
      ⊎_elim
      (λ h. or_left _ _ (lt-ltb x.0 y.0 h))
      (λ h. or_right _ _ (and_from _ _ (eq-eqb x.0 y.0 h.0) h.1))
      p

  tier_total : (x y : ℕ × V) → ((tiers k).at_most x y ≡ true) ⊎ ((tiers k).at_most y x ≡ true)
  tier_total x y = elim (cases_order x.0 y.0) [
    | inl e ↦ elim (laws.total x.1 y.1) [ inl h ↦ inl (at_most_lem x y (inr (e, h))) | inr h ↦ inr (at_most_lem y x (inr (omega arith, h))) ]
    | inr (inl h) ↦ inl (at_most_lem x y (inl h))
    | inr (inr h) ↦ inr (at_most_lem y x (inl h))
  ]

  tier_trans : (x y z : ℕ × V) → (tiers k).at_most x y ≡ true → (tiers k).at_most y z ≡ true → (tiers k).at_most x z ≡ true
  tier_trans x y z p q = at_most_lem x z (elim (ordered x y p) [
    | inl h ↦ elim (ordered y z q) [ inl i ↦ inl (omega arith) | inr i ↦ inl (omega (arith, i.0)) ]
    | inr h ↦ elim (ordered y z q) [ inl i ↦ inl (omega (arith, h.0)) | inr i ↦ inr (omega (arith, h.0, i.0), laws.trans x.1 y.1 z.1 h.1 i.1) ]
  ])

  tier_antisym : (x y : ℕ × V) → (tiers k).at_most x y ≡ true → (tiers k).at_most y x ≡ true → x ≡ y
  tier_antisym x y p q = elim (ordered x y p) [
    | inl h ↦ elim (ordered y x q) [ inl i ↦ absurd (omega arith) | inr i ↦ absurd (omega (arith, i.0)) ]
    | inr h ↦ elim (ordered y x q) [
      | inl i ↦ absurd (omega (arith, h.0))
      | inr i ↦ both h.0 (laws.antisym x.1 y.1 h.1 i.1)
    ]
  ]

  tier_least : (x : ℕ × V) → (tiers k).at_most (0, k.zero) x ≡ true
  tier_least x = at_most_lem (0, k.zero) x (elim (cases_order 0 x.0) [
    | inl e ↦ inr (e, laws.zero_least x.1)
    | inr (inl h) ↦ inl h
    | inr (inr h) ↦ absurd (omega arith)
  ])

  tier_keeps : (x y z : ℕ × V) → (tiers k).at_most x y ≡ true → (tiers k).at_most ((tiers k).sum x z) ((tiers k).sum y z) ≡ true
  tier_keeps x y z p = at_most_lem ((tiers k).sum x z) ((tiers k).sum y z) (elim (ordered x y p) [
    | inl h ↦ inl (omega arith)
    | inr h ↦ inr (omega (arith, h.0), laws.sum_keeps x.1 y.1 z.1 h.1)
  ])

  tier_part : (x y : ℕ × V) → (tiers k).within ((tiers k).sum x y) ≡ true → (tiers k).within x ≡ true
  tier_part x y p =
      let q = and_parts (nat_le (x.0 + y.0) ceiling) (k.within (k.sum x.1 y.1)) p in
      and_from _ _ (le-leb x.0 ceiling (omega (arith, leb-true (x.0 + y.0) ceiling q.0))) (laws.part_within x.1 y.1 q.1)

  pub tiers_lawful : Lawful (tiers k)
  tiers_lawful = record {
    sum_comm = λ x y. both (omega arith) (laws.sum_comm x.1 y.1);
    sum_assoc = λ x y z. both (omega arith) (laws.sum_assoc x.1 y.1 z.1);
    sum_zero = λ x. both (omega arith) (laws.sum_zero x.1);
    total = tier_total;
    trans = tier_trans;
    antisym = tier_antisym;
    zero_least = tier_least;
    zero_within = and_from _ _ (le-leb 0 ceiling (omega arith)) laws.zero_within;
    sum_keeps = tier_keeps;
    part_within = tier_part;
  }
