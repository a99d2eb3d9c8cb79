-- Self-subsuming resolution (r): a plain literal leaves a clause where another clause has its denial and otherwise only literals of the first. Assumes nothing.
use Rattle.std.specs.Prelude.{◌≡◌, ℕ, Bool, true, ◌&&◌, List, [], ◌∷◌, ◌++◌, Option}
use Rattle.std.specs.Option.{option_map}
use Rattle.sheet.specs.Literals.{opposite, has}
use Rattle.sheet.specs.declared.row.Item.{Item}
use Rattle.sheet.specs.Clauses.{Clause}
use Rattle.sheet.specs.Sheets.{Sheet}
use Rattle.meaning.specs.Steps.{Runs, repeated_step}
use Rattle.steps.specs.Places.{some, first_made, first_word}
use Rattle.steps.specs.Rewriting.{inside, but, lacking, plain_lit, with_clauses}

-- d has the denial of w, and otherwise only literals of c
abbrev pub yields : Clause → ℕ → Clause → Bool
yields c w d = has (opposite w) d.lits && inside (but (opposite w) d.lits) c.lits

-- w may leave c, of the clauses cs
abbrev pub may_leave : List Item → List Clause → Clause → ℕ → Bool
may_leave row cs c w = plain_lit row w && some (yields c w) cs

-- the clauses with the lowest such literal gone from c
abbrev pub strengthened : List Item → List Clause → List Clause → Clause → List Clause → Option (List Clause)
strengthened row cs before c rest = option_map (λ w. before ++ lacking w c ∷ rest) (first_word (may_leave row cs c) c.lits)

unfoldable pub strengthening : {V : Type 0} → Sheet V → Option (Sheet V)
strengthening s = option_map (with_clauses s) (first_made (strengthened s.row s.clauses) [] s.clauses)

-- its steps take no words
unfoldable pub StrengtheningRuns : {V : Type 0} → Runs (Sheet V)
StrengtheningRuns n s o = o ≡ repeated_step strengthening (λ t. true) n s
