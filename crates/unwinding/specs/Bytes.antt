-- Answers as bytes, one for each item, and searches that answer a number from 0. Assumes nothing.
use Rattle.std.specs.Prelude.{ℕ, zero, suc, ◌≤◌, Bool, false, not, List, [], Option, ◌==◌, nat_lt, position, slice_index}
use Rattle.std.specs.List.{AllByRecursion}
use Rattle.sheet.specs.Clauses.{Clause}
use Rattle.sheet.specs.Records.{Record}
use Rattle.sheet.specs.declared.row.Item.{Item}
use Rattle.sheet.specs.Sheets.{Sheet}
use Rattle.meaning.specs.Answers.{Values, met}

-- Byte i is that of item i + 1. An item without a byte is no.
abbrev pub values_of : List ℕ → Values
values_of bs zero = false
values_of bs (suc i) = slice_index bs i == 1

-- each is 0 or 1
abbrev pub Bits : List ℕ → Type 0
Bits bs = AllByRecursion (λ b. b ≤ 1) bs

abbrev pub first_above_one : List ℕ → Option ℕ
first_above_one bs = position (nat_lt 1) bs

abbrev pub is_unmet : Values → Clause → Bool
is_unmet v c = not (met v c.lits)

abbrev pub first_unmet : Values → List Clause → Option ℕ
first_unmet v cs = position (is_unmet v) cs

-- all of a record that unwinding looks at
abbrev pub record_of : List ℕ → ℕ → Record
record_of lits witness = record { code = 0; lits = lits; witness = witness }

-- all of a sheet that unwinding looks at
abbrev pub row_and_stack : List Item → List Record → Sheet (Unit {0})
row_and_stack row stack = record { callers = 0; row = row; clauses = []; stack = stack; weights = [] }
