-- Unit propagation (u): the first clause of one literal makes it true. Clauses with it go, its denial leaves the others, and the item is retired. Assumes nothing.
use Rattle.std.specs.Prelude.{◌≡◌, ℕ, Bool, true, List, [], ◌∷◌, ◌++◌, map, Some, None, filter, Option}
use Rattle.std.specs.Option.{option_map}
use Rattle.sheet.specs.Literals.{item_of, opposite}
use Rattle.sheet.specs.declared.row.Standing.{Standing}
use Rattle.sheet.specs.declared.row.Standing.TheVariants.{Plain, Label, Fixed, Covered, Forced}
use Rattle.sheet.specs.Rows.{item_at}
use Rattle.sheet.specs.Clauses.{Clause}
use Rattle.sheet.specs.Records.{Record}
use Rattle.sheet.specs.Sheets.{Sheet}
use Rattle.meaning.specs.Steps.{Runs, repeated_step}
use Rattle.steps.specs.Places.{first_made}
use Rattle.steps.specs.Rooms.{Room, records_fit}
use Rattle.steps.specs.Rewriting.{lacks, lacking, retired}

-- a clause as nothing, one literal, or a first literal and the rest
abbrev pub unit_of : List ℕ → Option ℕ
unit_of [] = None
unit_of (w ∷ []) = Some w
unit_of (w ∷ x ∷ ws) = None

abbrev pub unit_here : List Clause → Clause → List Clause → Option ℕ
unit_here before c rest = unit_of c.lits

abbrev pub first_unit : List Clause → Option ℕ
first_unit cs = first_made unit_here [] cs

-- a label is forced, a plain item fixed
abbrev pub settled_as : Standing → Standing
settled_as Plain = Fixed
settled_as Label = Forced
settled_as Fixed = Fixed
settled_as Covered = Covered
settled_as Forced = Forced

abbrev pub propagated : ℕ → List Clause → List Clause
propagated w cs = map (lacking (opposite w)) (filter (lacks w) cs)

abbrev pub unit_record : ℕ → Record
unit_record w = record { code = 3; lits = w ∷ []; witness = w }

abbrev pub made_unit : {V : Type 0} → Sheet V → ℕ → Sheet V
made_unit s w = record {
  callers = s.callers;
  row = retired s.row (item_of w) (settled_as (item_at s.row (item_of w)).standing);
  clauses = propagated w s.clauses;
  stack = s.stack ++ unit_record w ∷ [];
  weights = s.weights;
}

unfoldable pub propagation : {V : Type 0} → Sheet V → Option (Sheet V)
propagation s = option_map (made_unit s) (first_unit s.clauses)

abbrev pub unit_fits : {V : Type 0} → Room → Sheet V → Option ℕ → Bool
unit_fits room s None = true
unit_fits room s (Some w) = records_fit room s (unit_record w ∷ [])

unfoldable pub PropagationRuns : {V : Type 0} → Room → Runs (Sheet V)
PropagationRuns room n s o = o ≡ repeated_step propagation (λ t. unit_fits room t (first_unit t.clauses)) n s
