-- What a search for labels looks at. Assumes nothing.
use Rattle.std.specs.Prelude.{◌≡◌, ℕ, ◌<◌, ◌≤◌, Bool, false, List, [], map, length, Option}
use Rattle.std.specs.List.{AllByRecursion, AllByRecursion-prop}
use Rattle.std.proofs.Props.{props}
use Rattle.weight.specs.declared.kind.Weight.{Ghosts}
use Rattle.sheet.specs.Clauses.{Clause}
use Rattle.sheet.specs.declared.row.Item.{Item}
use Rattle.sheet.specs.declared.row.Standing.{Standing}
use Rattle.sheet.specs.declared.row.Standing.TheVariants.{Plain, Label, Fixed, Covered, Forced}
use Rattle.sheet.specs.Sheets.{Sheet, Lent, used_clauses, used_row, used_weights}
use Rattle.sheet.specs.Together.{OrdinalOf}
use Rattle.steps.specs.Covering.{is_covered}
use Rattle.steps.specs.Places.{lowest_item, nameable}

-- a sheet of these clauses, items and weights; a search looks at nothing else
abbrev pub seen : {W : Type 0} (m : Ghosts W) → List Clause → List Item → List W → Sheet m.Value
seen m cs row weights = record { callers = 0; row = row; clauses = cs; stack = []; weights = map m.value weights }

-- what a search looks at in lent buffers
abbrev pub sighted : {W : Type 0} (m : Ghosts W) → Lent W → Sheet m.Value
sighted m b = seen m (used_clauses b) (used_row b) (used_weights b)

-- the lowest label that another covers
abbrev pub lowest_covered : {W : Type 0} (m : Ghosts W) → Lent W → Option ℕ
lowest_covered m b = lowest_item (is_covered m.kind (sighted m b)) 1 (nameable (length (used_row b)))

-- each label has one of the weights
abbrev pub Weighed : {W : Type 0} → List Item → List W → Type 0
Weighed row weights = AllByRecursion (λ x. OrdinalOf (length weights) x.standing x.ordinal) row

-- by one proof at most, so that it can stand beside the fields of a struct
ordinal-prop : (softs : ℕ) (x : Standing) (n : ℕ) → IsProp (OrdinalOf softs x n)
ordinal-prop softs Plain n = Prim.hlevel props
ordinal-prop softs Label n = Prim.hlevel props
ordinal-prop softs Fixed n = Prim.hlevel props
ordinal-prop softs Covered n = Prim.hlevel props
ordinal-prop softs Forced n = Prim.hlevel props

pub Weighed-prop : {W : Type 0} (row : List Item) (weights : List W) → IsProp (Weighed row weights)
Weighed-prop row weights = AllByRecursion-prop (λ x. OrdinalOf (length weights) x.standing x.ordinal) (λ x. ordinal-prop (length weights) x.standing x.ordinal) row

-- no item below this one passes
abbrev pub NoneBelow : (ℕ → Bool) → ℕ → Type 0
NoneBelow test end = (j : ℕ) → 1 ≤ j → j < end → test j ≡ false
