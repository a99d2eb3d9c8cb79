-- Subsumption (s): a clause that has all the literals of another goes, labels included; of equals the later. Assumes nothing.
use Rattle.std.specs.Prelude.{◌≡◌, Bool, true, not, ◌&&◌, ◌||◌, List, [], ◌++◌, Option}
use Rattle.std.specs.Option.{option_map}
use Rattle.std.specs.Bool.{then_some}
use Rattle.sheet.specs.Clauses.{Clause}
use Rattle.sheet.specs.Sheets.{Sheet}
use Rattle.meaning.specs.Steps.{Runs, repeated_step}
use Rattle.steps.specs.Places.{some, first_made}
use Rattle.steps.specs.Rewriting.{inside, with_clauses}

-- d has only literals of c
abbrev pub under : Clause → Clause → Bool
under c d = inside d.lits c.lits

-- and lacks one of them
abbrev pub strictly_under : Clause → Clause → Bool
strictly_under c d = inside d.lits c.lits && not (inside c.lits d.lits)

abbrev pub is_subsumed : List Clause → Clause → List Clause → Bool
is_subsumed before c rest = some (under c) before || some (strictly_under c) rest

abbrev pub without_subsumed : List Clause → Clause → List Clause → Option (List Clause)
without_subsumed before c rest = then_some (is_subsumed before c rest) (before ++ rest)

-- the clauses without the first that is subsumed
abbrev pub subsumed_once : List Clause → Option (List Clause)
subsumed_once cs = first_made without_subsumed [] cs

unfoldable pub subsumption : {V : Type 0} → Sheet V → Option (Sheet V)
subsumption s = option_map (with_clauses s) (subsumed_once s.clauses)

-- its steps take no words
unfoldable pub SubsumptionRuns : {V : Type 0} → Runs (Sheet V)
SubsumptionRuns n s o = o ≡ repeated_step subsumption (λ t. true) n s
