-- A clause at its place in the words, one step of a cursor over clauses, and literals parted by their sign. Assumes nothing.
use Rattle.std.specs.Prelude.{◌≡◌, ℕ, ◌+◌, ◌<◌, ◌≤◌, false, List, ◌∷◌, length, slice_index, slice_set}
use Rattle.std.specs.List.{between, AllByRecursion}
use Rattle.sheet.specs.declared.clause.Place.{Place}
use Rattle.sheet.specs.Literals.{has, opposite}
use Rattle.sheet.specs.Clauses.{Clause, Tag, Hard, Soft, Working, Valid, Laid, clauses, clause_words}

-- the clause that lies at a place
abbrev pub placed : List ℕ → Place → Clause
placed s p = record { tag = p.tag; lits = between p.from p.to s }

-- The clause whose header stands at `at`, of words that end at `fill`: the clauses from there are this one and those behind it.
pub record Step (s : List ℕ) (at fill : ℕ) (p : Place) : Type 0 where
  pub from : p.from ≡ at + 1
  pub order : p.from ≤ p.to
  pub inside : p.to ≤ p.end
  pub fits : p.end ≤ fill
  pub valid : Valid (placed s p)
  pub here : clauses (between at fill s) ≡ placed s p ∷ clauses (between p.end fill s)
  pub words : between at p.end s ≡ clause_words (placed s p)
  pub rest : Laid (between p.end fill s)

-- words with a soft's ordinal written at a place
abbrev pub with_ordinal : List ℕ → ℕ → Tag → List ℕ
with_ordinal s at Hard = s
with_ordinal s at (Soft n) = slice_set s at n
with_ordinal s at Working = s

-- no item with both signs
abbrev pub OneSign : List ℕ → Type 0
OneSign ws = AllByRecursion (λ w. has (opposite w) ws ≡ false) ws

-- The literals up to `split` are plain, those from there on denied.
pub record Parted (ws : List ℕ) (split : ℕ) : Type 0 where
  pub inside : split ≤ length ws
  pub plain : (k : ℕ) → k < split → slice_index ws k < 32768
  pub denied : (k : ℕ) → split ≤ k → k < length ws → 32768 ≤ slice_index ws k
