-- One elimination over lent words: what it asks, and what it makes or leaves. Assumes nothing.
use Rattle.std.specs.Prelude.{◌≡◌, ℕ, ◌+◌, min, Bool, true, false, ◌&&◌, List, ◌++◌, length, take, filter, Option, nat_le}
use Rattle.std.specs.List.{AllByRecursion}
use Rattle.sheet.specs.declared.buffers.Marks.{Marks}
use Rattle.sheet.specs.Clauses.{Clause, Laid, Valid, clauses, encode}
use Rattle.sheet.specs.Records.{Stacked, ValidRecord, records, encode_stack}
use Rattle.sheet.specs.Sheets.{Fits, Lent, used_clauses, used_row}
use Rattle.steps.specs.Places.{every, lowest_item, nameable}
use Rattle.steps.specs.Elimination.{may_go, resolvents, lacks_both, elimination_records, is_counted}

-- the lowest item that may go
abbrev pub lowest_to_go : {W : Type 0} → Lent W → Option ℕ
lowest_to_go b = lowest_item (may_go (used_row b) (used_clauses b)) 1 (nameable (length (used_row b)))

-- the resolvents follow the layout where a header can count them, and have the item no more; and so do the records
pub record Eliminable (x : ℕ) (cs : List Clause) : Type 0 where
  pub valid : AllByRecursion (λ c. is_counted c ≡ true → Valid c) (resolvents x cs)
  pub apart : AllByRecursion (λ c. lacks_both x c ≡ true) (resolvents x cs)
  pub records : AllByRecursion ValidRecord (elimination_records x cs)

-- sheet and stack, with their marks
pub record Words : Type 0 where
  pub sheet : List ℕ
  pub stack : List ℕ
  pub marks : Marks

abbrev pub clauses_of : Words → List Clause
clauses_of b = clauses (take b.marks.sheet b.sheet)

-- all resolvents fit behind the clauses, and all records behind those before them
abbrev pub step_fits : ℕ → Words → Bool
step_fits x b = every is_counted (resolvents x (clauses_of b))
    && (nat_le (b.marks.sheet + length (encode (resolvents x (clauses_of b)))) (min (length b.sheet) 32768) && nat_le (b.marks.stack + length (encode_stack (elimination_records x (clauses_of b)))) (min (length b.stack) 32768))

pub record Made (x : ℕ) (b c : Words) : Type 0 where
  pub sheet : Fits c.marks.sheet c.sheet
  pub laid : Laid (take c.marks.sheet c.sheet)
  pub clauses : clauses_of c ≡ filter (lacks_both x) (clauses_of b) ++ resolvents x (clauses_of b)
  pub stack : Fits c.marks.stack c.stack
  pub stacked : Stacked (take c.marks.stack c.stack)
  pub records : records (take c.marks.stack c.stack) ≡ records (take b.marks.stack b.stack) ++ elimination_records x (clauses_of b)

-- words behind the marks may have changed
pub record GivenUp (b c : Words) : Type 0 where
  pub marks : c.marks ≡ b.marks
  pub sheet : take b.marks.sheet c.sheet ≡ take b.marks.sheet b.sheet
  pub stack : take b.marks.stack c.stack ≡ take b.marks.stack b.stack

abbrev pub Eliminated : ℕ → Words → Words → Bool → Type 0
Eliminated x b c true = (step_fits x b ≡ true) × Made x b c
Eliminated x b c false = (step_fits x b ≡ false) × GivenUp b c
