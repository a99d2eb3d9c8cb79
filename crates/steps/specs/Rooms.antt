-- The words that sheet and stack have in use, and the room that lent buffers have for them. Assumes nothing.
use Rattle.std.specs.Prelude.{ℕ, ◌+◌, min, Bool, List, length, nat_le}
use Rattle.sheet.specs.Clauses.{Clause, encode}
use Rattle.sheet.specs.Records.{Record, encode_stack}
use Rattle.sheet.specs.Sheets.{Sheet, Lent}

-- the most words that can be in use
pub record Room : Type 0 where
  pub sheet : ℕ
  pub stack : ℕ

abbrev pub room_of : {W : Type 0} → Lent W → Room
room_of b = record { sheet = min (length b.sheet) 32768; stack = min (length b.stack) 32768 }

-- these clauses fit behind those of the sheet, which are all still there
abbrev pub clauses_fit : {V : Type 0} → Room → Sheet V → List Clause → Bool
clauses_fit room s new = nat_le (length (encode s.clauses) + length (encode new)) room.sheet

abbrev pub records_fit : {V : Type 0} → Room → Sheet V → List Record → Bool
records_fit room s new = nat_le (length (encode_stack s.stack) + length (encode_stack new)) room.stack
