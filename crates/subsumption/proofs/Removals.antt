-- The search for a subsumed clause goes on where one was removed: a removal makes no other clause subsumed. Assumes nothing.
use Rattle.std.proofs.Common.{◌≡◌, Bool, true, false, ◌||◌, List, [], ◌∷◌, ◌++◌, Some, None, sym, refl, ap, ◌∙◌}
use Rattle.std.specs.Option.{option_or}
use Rattle.std.specs.Bool.{then_some}
use Rattle.std.specs.List.{list_any}
use Rattle.std.proofs.lemmas.List.{append_assoc, append-nil}
use Rattle.std.proofs.lemmas.Bool.{or_from, or_parts}
use Rattle.sheet.specs.Clauses.{Clause}
use Rattle.steps.specs.Places.{some, first_made}
use Rattle.steps.specs.Subsumption.{under, strictly_under, is_subsumed, without_subsumed, subsumed_once}

-- `any`, by the definition here
pub some_is_any : {X : Type 0} (test : X → Bool) (xs : List X) → list_any test xs ≡ some test xs
some_is_any test [] = refl
some_is_any test (x ∷ xs) = ap (λ b. test x || b) (some_is_any test xs)

-- none of ys is subsumed, with xs before them and rest behind them
abbrev pub NoneSubsumed : List Clause → List Clause → List Clause → Type 0
NoneSubsumed xs [] rest = Unit {0}
NoneSubsumed xs (y ∷ ys) rest = (is_subsumed xs y (ys ++ rest) ≡ false) × NoneSubsumed (xs ++ y ∷ []) ys rest

-- a test that none of more clauses pass
some_without : (test : Clause → Bool) (xs : List Clause) (c : Clause) (rest : List Clause) → some test (xs ++ c ∷ rest) ≡ false → some test (xs ++ rest) ≡ false
some_without test [] c rest none = (or_parts (test c) (some test rest) none).1
some_without test (x ∷ xs) c rest none =
    let parts = or_parts (test x) (some test (xs ++ c ∷ rest)) none in
    or_from (test x) (some test (xs ++ rest)) parts.0 (some_without test xs c rest parts.1)

pub none_without : (xs ys : List Clause) (c : Clause) (rest : List Clause) → NoneSubsumed xs ys (c ∷ rest) → NoneSubsumed xs ys rest
none_without xs [] c rest none = tt
none_without xs (y ∷ ys) c rest none =
    let parts = or_parts (some (under y) xs) (some (strictly_under y) (ys ++ c ∷ rest)) none.0 in
    (or_from (some (under y) xs) (some (strictly_under y) (ys ++ rest)) parts.0 (some_without (strictly_under y) ys c rest parts.1), none_without (xs ++ y ∷ []) ys c rest none.1)

pub none_more : (xs ys : List Clause) (c : Clause) (rest : List Clause) → NoneSubsumed xs ys (c ∷ rest) → is_subsumed (xs ++ ys) c rest ≡ false → NoneSubsumed xs (ys ++ c ∷ []) rest
none_more xs [] c rest none free = (rw append-nil at free, tt)
none_more xs (y ∷ ys) c rest none free = (
  ap (is_subsumed xs y) (append_assoc ys (c ∷ []) rest) ∙ none.0,
  none_more (xs ++ y ∷ []) ys c rest none.1 (ap (λ zs. is_subsumed zs c rest) (append_assoc xs (y ∷ []) ys) ∙ free),
)

-- the search is past those
search_past : (xs ys rest : List Clause) → NoneSubsumed xs ys rest → first_made without_subsumed xs (ys ++ rest) ≡ first_made without_subsumed (xs ++ ys) rest
search_past xs [] rest none = ap (λ zs. first_made without_subsumed zs rest) (sym (append-nil xs))
search_past xs (y ∷ ys) rest none =
    ap (λ b. option_or (then_some b (xs ++ (ys ++ rest))) (first_made without_subsumed (xs ++ y ∷ []) (ys ++ rest))) none.0
    ∙ search_past (xs ++ y ∷ []) ys rest none.1
    ∙ ap (λ zs. first_made without_subsumed zs rest) (append_assoc xs (y ∷ []) ys)

module _ (before rest : List Clause) where
  pub once_none : NoneSubsumed [] before [] → subsumed_once before ≡ None
  once_none none = ap subsumed_once (sym (append-nil before)) ∙ search_past [] before [] none

  pub once_here : (c : Clause) → NoneSubsumed [] before (c ∷ rest) → is_subsumed before c rest ≡ true → subsumed_once (before ++ c ∷ rest) ≡ Some (before ++ rest)
  once_here c none here = search_past [] before (c ∷ rest) none ∙ ap (λ b. option_or (then_some b (before ++ rest)) (first_made without_subsumed (before ++ c ∷ []) rest)) here
