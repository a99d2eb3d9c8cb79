-- When lent buffers hold together, part by part in the order of the check. Assumes nothing.
use Rattle.std.specs.Prelude.{◌≡◌, ℕ, ◌<◌, ◌≤◌, Bool, true, false, List, [], ◌∷◌, ◌++◌, length, take, Ok, Err, Result, ◌≢◌}
use Rattle.std.specs.List.{AllByRecursion}
use Rattle.weight.specs.Total.{total_in}
use Rattle.weight.specs.declared.kind.Weight.{Ghosts}
use Rattle.sheet.specs.declared.buffers.Phase.{Phase}
use Rattle.sheet.specs.declared.buffers.Phase.TheVariants.{Gathering, Working}
use Rattle.sheet.specs.declared.refusal.Part.{Part}
use Rattle.sheet.specs.declared.refusal.Part.TheVariants.{Sheet as in_sheet, Row as in_row, Stack as in_stack, Weights as in_weights}
use Rattle.sheet.specs.Literals.{Literal, item_of, denied}
use Rattle.sheet.specs.Rows.{Item, Standing, Plain, Label, Fixed, Covered, Forced, live_at, label_at, label_ordinals}
use Rattle.sheet.specs.Clauses.{Tag, Hard, Soft, Working as Worked, Laid, soft_ordinals}
use Rattle.sheet.specs.Records.{Stacked}
use Rattle.sheet.specs.Sheets.{Lent, Fits, used_clauses, used_row, used_records, used_weights}

-- hard and soft clauses are gathered, working ones worked on
abbrev pub of_phase : Phase → Tag → Bool
of_phase Gathering Hard = true
of_phase Gathering (Soft n) = true
of_phase Gathering Worked = false
of_phase Working Hard = false
of_phase Working (Soft n) = false
of_phase Working Worked = true

abbrev pub not_denied : Phase → List Item → ℕ → Type 0
not_denied Gathering row w = Unit {0}
not_denied Working row w = denied w ≡ true → label_at row (item_of w) ≡ false

-- A literal of a clause names one of n items; where the row has that item it is live, and no working clause denies a label.
pub record Stands (phase : Phase) (n : ℕ) (row : List Item) (w : ℕ) : Type 0 where
  pub literal : Literal n w
  pub live : item_of w ≤ length row → live_at row (item_of w) ≡ true
  pub undenied : item_of w ≤ length row → not_denied phase row w

-- no number is there twice
abbrev pub Distinct : List ℕ → Type 0
Distinct [] = Unit {0}
Distinct (x ∷ xs) = AllByRecursion (λ y. x ≢ y) xs × Distinct xs

pub record SheetHolds {W : Type 0} (phase : Phase) (b : Lent W) : Type 0 where
  pub fits : Fits b.marks.sheet b.sheet
  pub laid : Laid (take b.marks.sheet b.sheet)
  pub kinds : AllByRecursion (λ c. of_phase phase c.tag ≡ true) (used_clauses b)
  pub literals : AllByRecursion (λ c. AllByRecursion (Stands phase b.counts.items b.row) c.lits) (used_clauses b)
  pub ranged : AllByRecursion (λ n. n < b.counts.softs) (soft_ordinals (used_clauses b))
  pub apart : Distinct (soft_ordinals (used_clauses b))

-- a label's ordinal is that of a soft, any other item's is 0
abbrev pub OrdinalOf : ℕ → Standing → ℕ → Type 0
OrdinalOf softs Plain n = n ≡ 0
OrdinalOf softs Label n = n < softs
OrdinalOf softs Fixed n = n ≡ 0
OrdinalOf softs Covered n = n < softs
OrdinalOf softs Forced n = n < softs

pub record RowHolds {W : Type 0} (b : Lent W) : Type 0 where
  pub fits : b.counts.items ≤ length b.row
  pub ranged : AllByRecursion (λ x. OrdinalOf b.counts.softs x.standing x.ordinal) (used_row b)
  -- no two labels, and no label and gathered soft
  pub apart : Distinct (soft_ordinals (used_clauses b) ++ label_ordinals (used_row b))

abbrev pub Empty : Phase → ℕ → Type 0
Empty Gathering mark = mark ≡ 0
Empty Working mark = Unit {0}

pub record StackHolds {W : Type 0} (phase : Phase) (b : Lent W) : Type 0 where
  pub fits : Fits b.marks.stack b.stack
  pub laid : Stacked (take b.marks.stack b.stack)
  pub literals : AllByRecursion (λ r. AllByRecursion (Literal b.counts.items) r.lits) (used_records b)
  -- nothing is recorded before the close
  pub empty : Empty phase b.marks.stack

pub record WeightsHold {W : Type 0} (m : Ghosts W) (b : Lent W) : Type 0 where
  pub fits : b.counts.softs ≤ length b.weights
  pub ceiling : m.kind.within (total_in m (used_weights b)) ≡ true

pub record HoldsTogether {W : Type 0} (m : Ghosts W) (phase : Phase) (b : Lent W) : Type 0 where
  pub sheet : SheetHolds phase b
  pub row : RowHolds b
  pub stack : StackHolds phase b
  pub weights : WeightsHold m b

-- the part is the first that fails
abbrev pub Fails : {W : Type 0} (m : Ghosts W) → Phase → Lent W → Part → Type 0
Fails m phase b in_sheet = SheetHolds phase b → ⊥
Fails m phase b in_row = SheetHolds phase b × (RowHolds b → ⊥)
Fails m phase b in_stack = SheetHolds phase b × RowHolds b × (StackHolds phase b → ⊥)
Fails m phase b in_weights = SheetHolds phase b × RowHolds b × StackHolds phase b × (WeightsHold m b → ⊥)

-- What the check answers: the first part that fails, if one does.
abbrev pub Checked : {W : Type 0} (m : Ghosts W) → Phase → Lent W → Result (Unit {0}) Part → Type 0
Checked m phase b (Ok u) = HoldsTogether m phase b
Checked m phase b (Err part) = Fails m phase b part
