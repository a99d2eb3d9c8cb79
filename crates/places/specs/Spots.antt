-- The first clause and literal that pass a test, among clauses and in their words. Assumes nothing.
use Rattle.std.specs.Prelude.{◌≡◌, ℕ, ◌<◌, ◌≤◌, Bool, List, [], length, take, Some, None, Option, slice_index}
use Rattle.std.specs.Option.{option_map}
use Rattle.std.specs.List.{between}
use Rattle.sheet.specs.Clauses.{Clause, Laid, clauses}
use Rattle.sheet.specs.ClauseSteps.{Step, placed}
use Rattle.sheet.specs.Sheets.{Lent, used_clauses, used_row}
use Rattle.steps.specs.Places.{first_made, first_word}
use Rattle.places.specs.Asking.{Asked}
use Rattle.places.specs.declared.Found.{Found}

-- a clause with one of its literals, and the clauses before it and behind it
pub record Spot : Type 0 where
  pub before : List Clause
  pub clause : Clause
  pub rest : List Clause
  pub word : ℕ

abbrev pub spot : List Clause → Clause → List Clause → ℕ → Spot
spot before c rest w = record { before = before; clause = c; rest = rest; word = w }

-- the lowest literal of c that passes; the test is told the literals of the clause
abbrev pub spotted : (List ℕ → ℕ → Bool) → List Clause → Clause → List Clause → Option Spot
spotted test before c rest = option_map (spot before c rest) (first_word (test c.lits) c.lits)

abbrev pub first_spot : (List ℕ → ℕ → Bool) → List Clause → Option Spot
first_spot test cs = first_made (spotted test) [] cs

-- What a search over literals answers: which is the first that passes.
abbrev pub WordFound : (ℕ → Bool) → List ℕ → Option ℕ → Type 0
WordFound test ws None = first_word test ws ≡ None
WordFound test ws (Some i) = (i < length ws) × (first_word test ws ≡ Some (slice_index ws i))

-- The first spot lies at p.
pub record SpotAt (test : List ℕ → ℕ → Bool) (s : List ℕ) (fill : ℕ) (p : Found) : Type 0 where
  pub front : Laid (take p.at s)
  pub step : Step s p.at fill p.place
  pub low : p.place.from ≤ p.literal
  pub high : p.literal < p.place.to
  pub first : first_spot test (clauses (take fill s)) ≡ Some (spot (clauses (take p.at s)) (placed s p.place) (clauses (between p.place.end fill s)) (slice_index s p.literal))

-- What a search over the words of clauses answers.
abbrev pub PlaceFound : (List ℕ → ℕ → Bool) → List ℕ → ℕ → Option Found → Type 0
PlaceFound test s fill None = first_spot test (clauses (take fill s)) ≡ None
PlaceFound test s fill (Some p) = SpotAt test s fill p

-- the same of lent buffers
abbrev pub FoundIn : {W : Type 0} → Asked → Lent W → Option Found → Type 0
FoundIn asked b o = PlaceFound (asked (used_row b) (used_clauses b)) b.sheet b.marks.sheet o
