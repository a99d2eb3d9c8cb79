-- Where a search that finds something finds it. Assumes nothing.
use Rattle.std.proofs.Common.{◌≡◌, ℕ, zero, suc, ◌+◌, ◌<◌, ◌≤◌, Bool, true, false, List, [], ◌∷◌, ◌++◌, Some, None, Option, sym, refl, ap, ◌∙◌, subst, inl, inr, arith}
use Rattle.std.specs.Option.{option_map, option_or}
use Rattle.std.specs.Bool.{then_some}
use Rattle.std.proofs.lemmas.List.{append_assoc}
use Rattle.std.proofs.lemmas.Bool.{cond_both}
use Rattle.sheet.specs.Clauses.{Clause}
use Rattle.steps.specs.Places.{first_made, first_word, lowest_item}
use Rattle.steps.proofs.Members.{In}

pub not_none : {X : Type 0} {x : X} → None ≡ Some x → ⊥
not_none never = let z : ◌≡◌ {A = ℕ} 0 1 = cc in omega arith

pub mapped_from : {X Y : Type 0} (f : X → Y) (o : Option X) (y : Y) → option_map f o ≡ Some y → (x : X) × (o ≡ Some x) × (f x ≡ y)
mapped_from f None y found = absurd (not_none found)
mapped_from f (Some x) y found = (x, refl, cc)

-- what holds of all that can be mapped holds of what was
pub mapped_at : {X Y : Type 0} (P : Y → Type 0) (f : X → Y) (o : Option X) (y : Y) → option_map f o ≡ Some y → ((x : X) → o ≡ Some x → P (f x)) → P y
mapped_at P f o y found each = let from = mapped_from f o y found in subst P from.2 (each from.0 from.1)

pub when_true : {X : Type 0} (b : Bool) (x y : X) → then_some b x ≡ Some y → (b ≡ true) × (x ≡ y)
when_true true x y found = (refl, cc)
when_true false x y found = absurd (not_none found)

-- the clause of which y was made, with those before it and behind it
pub record Made {Y : Type 0} (make : List Clause → Clause → List Clause → Option Y) (cs : List Clause) (y : Y) : Type 0 where
  pub before : List Clause
  pub clause : Clause
  pub rest : List Clause
  pub parts : before ++ clause ∷ rest ≡ cs
  pub makes : make before clause rest ≡ Some y

module _ {Y : Type 0} (make : List Clause → Clause → List Clause → Option Y) (y : Y) where
  made_behind : (before cs : List Clause) → first_made make before cs ≡ Some y → Made make (before ++ cs) y
  made_behind before [] found = absurd (not_none found)
  made_behind before (c ∷ rest) found = here (make before c rest) refl found (made_behind (before ++ c ∷ []) rest)
    where
      here : (o : Option Y) → make before c rest ≡ o → option_or o (first_made make (before ++ c ∷ []) rest) ≡ Some y → (first_made make (before ++ c ∷ []) rest ≡ Some y → Made make ((before ++ c ∷ []) ++ rest) y) → Made make (before ++ c ∷ rest) y
      here None is found later = rw append_assoc at (later found)
      here (Some x) is found later = record { before = before; clause = c; rest = rest; parts = refl; makes = is ∙ found }

  pub made_place : (cs : List Clause) → first_made make [] cs ≡ Some y → Made make cs y
  made_place cs found = made_behind [] cs found

module _ (test : ℕ → Bool) where
  pub word_place : (ws : List ℕ) (w : ℕ) → first_word test ws ≡ Some w → In w ws × (test w ≡ true)
  word_place [] w = λ found. absurd (not_none found)
  word_place (x ∷ xs) w =
      cond_both (test x) (Some x) (first_word test xs) (λ o. o ≡ Some w → In w (x ∷ xs) × (test w ≡ true))
      (λ passes found. let is : x ≡ w = cc in (inl is, ap test (sym is) ∙ passes))
      (λ fails found. let later = word_place xs w found in (inr later.0, later.1))

  -- it is one of the n, and passes
  pub item_place : (i n j : ℕ) → lowest_item test i n ≡ Some j → (i ≤ j) × (j < i + n) × (test j ≡ true)
  item_place i zero j = λ found. absurd (not_none found)
  item_place i (suc n) j =
      cond_both (test i) (Some i) (lowest_item test (suc i) n) (λ o. o ≡ Some j → (i ≤ j) × (j < i + suc n) × (test j ≡ true))
      (λ passes found. let is : i ≡ j = cc in (omega arith, omega arith, ap test (sym is) ∙ passes))
      (λ fails found. let later = item_place (suc i) n j found in (omega arith, omega arith, later.2))
