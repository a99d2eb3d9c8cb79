-- The tables of group detection. Assumes nothing.
use Rattle.std.specs.Prelude.{◌≡◌, ℕ, suc, ◌+◌, ◌<◌, min, Bool, false, cond, ◌||◌, List, [], ◌∷◌, ◌==◌, slice_index, slice_index_or}
use Rattle.sheet.specs.Literals.{item_of}
use Rattle.sheet.specs.Clauses.{Clause}
use Rattle.meaning.specs.Calls.{softs_naming, in_hard}
use Rattle.closing.specs.declared.survey.Survey.{Survey}

-- how many of the literals name the item
abbrev pub namings : ℕ → List ℕ → ℕ
namings i [] = 0
namings i (w ∷ ws) = cond (i == item_of w) (suc (namings i ws)) (namings i ws)

-- A table of counts that stop at 2, and one of notes, each before and after more is told of the items.

abbrev pub Counted : List ℕ → List ℕ → (ℕ → ℕ) → Type 0
Counted before after more = (i : ℕ) → i < 2001 → slice_index after i ≡ min 2 (slice_index before i + more i)

abbrev pub Noted : List Bool → List Bool → (ℕ → Bool) → Type 0
Noted before after more = (i : ℕ) → i < 2001 → slice_index_or after i false ≡ (slice_index_or before i false || more i)

-- What the tables say of each item: how many softs name it, stopping at 2, and whether a hard clause denies it.
pub record Surveys (all : List Clause) (t : Survey) : Type 0 where
  pub naming : (i : ℕ) → i < 2001 → slice_index t.naming i ≡ min 2 (softs_naming i all)
  pub denials : (i : ℕ) → i < 2001 → slice_index_or t.denials i false ≡ in_hard (i + 32768) all
