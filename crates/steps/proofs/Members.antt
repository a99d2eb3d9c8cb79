-- Members of lists, and the tests that find them. Assumes nothing.
use Rattle.std.proofs.Common.{◌≡◌, ℕ, Bool, true, false, eqb, ◌⊎◌, List, [], ◌∷◌, ◌++◌, map, filter, sym, refl, ap, ◌∙◌, subst, inl, inr, ⊎_elim}
use Rattle.std.specs.List.{flat_map, AllByRecursion}
use Rattle.std.proofs.lemmas.Bool.{both_ways, cases_Bool, cond_both, and_parts, or_cases, or_left, or_right, eqb-true, eqb-false, eq-eqb, ne_eqb, not-true, not_from_false}
use Rattle.sheet.specs.Literals.{has}
use Rattle.steps.specs.Places.{some, every}
use Rattle.steps.specs.Rewriting.{inside, is_other, but}

-- x is one of the list
abbrev pub In : {X : Type 0} → X → List X → Type 0
In x [] = ⊥
In x (y ∷ ys) = (y ≡ x) ⊎ In x ys

module _ {X : Type 0} where
  pub in_left : (x : X) (xs ys : List X) → In x xs → In x (xs ++ ys)
  in_left x [] ys among = absurd among
  in_left x (y ∷ xs) ys (inl is) = inl is
  in_left x (y ∷ xs) ys (inr among) = inr (in_left x xs ys among)

  pub in_right : (x : X) (xs ys : List X) → In x ys → In x (xs ++ ys)
  in_right x [] ys among = among
  in_right x (y ∷ xs) ys among = inr (in_right x xs ys among)

  pub in_append : (x : X) (xs ys : List X) → In x (xs ++ ys) → In x xs ⊎ In x ys
  in_append x [] ys among = inr among
  in_append x (y ∷ xs) ys (inl is) = inl (inl is)
  in_append x (y ∷ xs) ys (inr among) = ⊎_elim (λ left. inl (inr left)) inr (in_append x xs ys among)

  -- One of the list, and the others.

  pub in_middle : (x : X) (before rest : List X) → In x (before ++ x ∷ rest)
  in_middle x before rest = in_right x before (x ∷ rest) (inl refl)

  pub in_others : (x y : X) (before rest : List X) → In x (before ++ rest) → In x (before ++ y ∷ rest)
  in_others x y before rest among = ⊎_elim (in_left x before (y ∷ rest)) (λ behind. in_right x before (y ∷ rest) (inr behind)) (in_append x before rest among)

  pub middle_or_others : (x y : X) (before rest : List X) → In x (before ++ y ∷ rest) → (y ≡ x) ⊎ In x (before ++ rest)
  middle_or_others x y before rest among = elim (in_append x before (y ∷ rest) among) [
    | inl left ↦ inr (in_left x before rest left)
    | inr (inl is) ↦ inl is
    | inr (inr behind) ↦ inr (in_right x before rest behind)
  ]

  -- What holds of each.

  module _ (P : X → Type 0) where
    pub all_in : (x : X) (xs : List X) → AllByRecursion P xs → In x xs → P x
    all_in x [] all among = absurd among
    all_in x (y ∷ xs) all (inl is) = subst P is all.0
    all_in x (y ∷ xs) all (inr among) = all_in x xs all.1 among

    -- of the only one
    pub of_one : (y : X) → P y → (x : X) → In x (y ∷ []) → P x
    of_one y is x among = all_in x (y ∷ []) (is, tt) among

    pub all_from_in : (xs : List X) → ((x : X) → In x xs → P x) → AllByRecursion P xs
    all_from_in [] each = tt
    all_from_in (x ∷ xs) each = (each x (inl refl), all_from_in xs (λ y among. each y (inr among)))

  -- Tests.

  module _ (test : X → Bool) where
    pub in_kept : (x : X) (xs : List X) → In x (filter test xs) → In x xs × (test x ≡ true)
    in_kept x [] = λ among. absurd among
    in_kept x (y ∷ xs) =
        let rest : In x (filter test xs) → In x (y ∷ xs) × (test x ≡ true) = λ among. let found = in_kept x xs among in (inr found.0, found.1) in
        cond_both (test y) (y ∷ filter test xs) (filter test xs) (λ kept. In x kept → In x (y ∷ xs) × (test x ≡ true))
        (λ passes among. ⊎_elim (λ is. (inl is, ap test (sym is) ∙ passes)) rest among)
        (λ fails. rest)

    pub in_kept_from : (x : X) (xs : List X) → In x xs → test x ≡ true → In x (filter test xs)
    in_kept_from x [] among passes = absurd among
    in_kept_from x (y ∷ xs) among passes =
        cond_both (test y) (y ∷ filter test xs) (filter test xs) (In x)
        (λ kept. ⊎_elim inl (λ later. inr (in_kept_from x xs later passes)) among)
        (λ fails. ⊎_elim (λ is. absurd (both_ways (test y) fails (ap test is ∙ passes))) (λ later. in_kept_from x xs later passes) among)

    pub some_in : (xs : List X) → some test xs ≡ true → (x : X) × In x xs × (test x ≡ true)
    some_in [] passes = absurd (both_ways false refl passes)
    some_in (y ∷ xs) passes = elim (or_cases (test y) (some test xs) passes) [
      | inl here ↦ (y, inl refl, here)
      | inr later ↦ let found = some_in xs later in (found.0, inr found.1, found.2)
    ]

    pub some_from : (x : X) (xs : List X) → In x xs → test x ≡ true → some test xs ≡ true
    some_from x [] among passes = absurd among
    some_from x (y ∷ xs) (inl is) passes = or_left (test y) (some test xs) (ap test is ∙ passes)
    some_from x (y ∷ xs) (inr later) passes = or_right (test y) (some test xs) (some_from x xs later passes)

    pub every_in : (x : X) (xs : List X) → every test xs ≡ true → In x xs → test x ≡ true
    every_in x [] all among = absurd among
    every_in x (y ∷ xs) all (inl is) = ap test (sym is) ∙ (and_parts (test y) (every test xs) all).0
    every_in x (y ∷ xs) all (inr later) = every_in x xs (and_parts (test y) (every test xs) all).1 later

-- a list as one of its members, those before it and those behind it
pub record Parts {X : Type 0} (before : List X) (y : X) (rest all : List X) : Type 0 where
  pub is : before ++ y ∷ rest ≡ all

module _ {X : Type 0} {before : List X} {y : X} {rest all : List X} (parts : Parts before y rest all) where
  pub part_in : In y all
  part_in = rw parts.is at (in_middle y before rest)

  pub others_in : (x : X) → In x (before ++ rest) → In x all
  others_in x among = rw parts.is at (in_others x y before rest among)

  pub part_or_others : (x : X) → In x all → (y ≡ x) ⊎ In x (before ++ rest)
  part_or_others x among = middle_or_others x y before rest (rw (sym parts.is) at among)

module _ {X Y : Type 0} where
  pub in_map : (f : X → Y) (y : Y) (xs : List X) → In y (map f xs) → (x : X) × In x xs × (f x ≡ y)
  in_map f y [] among = absurd among
  in_map f y (x ∷ xs) (inl is) = (x, inl refl, is)
  in_map f y (x ∷ xs) (inr later) = let found = in_map f y xs later in (found.0, inr found.1, found.2)

  pub in_map_from : (f : X → Y) (x : X) (xs : List X) → In x xs → In (f x) (map f xs)
  in_map_from f x [] among = absurd among
  in_map_from f x (y ∷ xs) (inl is) = inl (ap f is)
  in_map_from f x (y ∷ xs) (inr later) = inr (in_map_from f x xs later)

  pub in_joined : (f : X → List Y) (y : Y) (xs : List X) → In y (flat_map f xs) → (x : X) × In x xs × In y (f x)
  in_joined f y [] among = absurd among
  in_joined f y (x ∷ xs) among = elim (in_append y (f x) (flat_map f xs) among) [
    | inl here ↦ (x, inl refl, here)
    | inr later ↦ let found = in_joined f y xs later in (found.0, inr found.1, found.2)
  ]

  pub in_joined_from : (f : X → List Y) (y : Y) (x : X) (xs : List X) → In x xs → In y (f x) → In y (flat_map f xs)
  in_joined_from f y x [] among made = absurd among
  in_joined_from f y x (z ∷ xs) (inl is) made = in_left y (f z) (flat_map f xs) (subst (λ t. In y (f t)) (sym is) made)
  in_joined_from f y x (z ∷ xs) (inr later) made = in_right y (f z) (flat_map f xs) (in_joined_from f y x xs later made)

-- Words.

pub has_in : (w : ℕ) (ws : List ℕ) → has w ws ≡ true → In w ws
has_in w [] there = absurd (both_ways false refl there)
has_in w (x ∷ xs) there = ⊎_elim (λ same. inl (eqb-true x w same)) (λ later. inr (has_in w xs later)) (or_cases (eqb x w) (has w xs) there)

pub in_has : (w : ℕ) (ws : List ℕ) → In w ws → has w ws ≡ true
in_has w [] among = absurd among
in_has w (x ∷ xs) (inl is) = or_left (eqb x w) (has w xs) (eq-eqb x w is)
in_has w (x ∷ xs) (inr later) = or_right (eqb x w) (has w xs) (in_has w xs later)

pub lacks_in : (w : ℕ) (ws : List ℕ) → has w ws ≡ false → In w ws → ⊥
lacks_in w ws none among = both_ways (has w ws) none (in_has w ws among)

pub not_in_lacks : (w : ℕ) (ws : List ℕ) → (In w ws → ⊥) → has w ws ≡ false
not_in_lacks w ws none = elim (cases_Bool (has w ws)) [
  | inl there ↦ absurd (none (has_in w ws there))
  | inr lacks ↦ lacks
]

pub inside_in : (xs ys : List ℕ) → inside xs ys ≡ true → (w : ℕ) → In w xs → In w ys
inside_in [] ys all w among = absurd among
inside_in (x ∷ xs) ys all w among =
    let parts = and_parts (has x ys) (inside xs ys) all in
    ⊎_elim (λ is. subst (λ z. In z ys) is (has_in x ys parts.0)) (inside_in xs ys parts.1 w) among

pub in_but : (u w : ℕ) (ws : List ℕ) → In u (but w ws) → In u ws × (u ≡ w → ⊥)
in_but u w ws among = let found = in_kept (is_other w) u ws among in (found.0, eqb-false u w (not-true (eqb u w) found.1))

pub in_but_from : (u w : ℕ) (ws : List ℕ) → In u ws → (u ≡ w → ⊥) → In u (but w ws)
in_but_from u w ws among other = in_kept_from (is_other w) u ws among (not_from_false (eqb u w) (ne_eqb u w other))
