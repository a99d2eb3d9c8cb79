-- The first place that qualifies for a step, in sheet order. Assumes nothing.
use Rattle.std.specs.Prelude.{ℕ, zero, suc, min, Bool, true, false, cond, ◌&&◌, ◌||◌, List, [], ◌∷◌, ◌++◌, Some, None, Option}
use Rattle.std.specs.Option.{option_or}
use Rattle.sheet.specs.Clauses.{Clause}

abbrev pub some : {X : Type 0} → (X → Bool) → List X → Bool
some test [] = false
some test (x ∷ xs) = test x || some test xs

abbrev pub every : {X : Type 0} → (X → Bool) → List X → Bool
every test [] = true
every test (x ∷ xs) = test x && every test xs

-- What is made of the first clause of which something can be made; `make` is told the clauses before it and behind it.
abbrev pub first_made : {Y : Type 0} → (List Clause → Clause → List Clause → Option Y) → List Clause → List Clause → Option Y
first_made make before [] = None
first_made make before (c ∷ rest) = option_or (make before c rest) (first_made make (before ++ c ∷ []) rest)

-- the first word that passes
abbrev pub first_word : (ℕ → Bool) → List ℕ → Option ℕ
first_word test [] = None
first_word test (w ∷ ws) = cond (test w) (Some w) (first_word test ws)

-- the lowest of n items, of which the first is item i, that passes
abbrev pub lowest_item : (ℕ → Bool) → ℕ → ℕ → Option ℕ
lowest_item test i zero = None
lowest_item test i (suc n) = cond (test i) (Some i) (lowest_item test (suc i) n)

-- how many of n items a literal can name, with 15 bits for the item
abbrev pub nameable : ℕ → ℕ
nameable n = min n 32767
