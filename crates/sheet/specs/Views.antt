-- What borrowed clauses and records stand for, and what it is to test clauses. Assumes nothing.
use Rattle.std.specs.Prelude.{◌≡◌, ℕ, Bool, List}
use Rattle.std.specs.Borrow.{Bor}
use Rattle.std.specs.Fn.{Shared}
use Rattle.sheet.specs.declared.clauses.ClauseRef.{ClauseRef}
use Rattle.sheet.specs.declared.records.RecordRef.{RecordRef}
use Rattle.sheet.specs.Clauses.{Clause, Tag}
use Rattle.sheet.specs.Records.{Record}

abbrev pub clause_seen : ClauseRef → Clause
clause_seen c = record { tag = c.tag; lits = c.lits.now }

abbrev pub record_seen : RecordRef → Record
record_seen r = record { code = r.code; lits = r.lits.now; witness = r.witness }

-- each call of f on a clause's tag and literals answers what the test says of the clause
abbrev pub Tests : {F : Type 0} → Shared F (Tag × (Bor (List ℕ) × Unit {0})) Bool → F → (Clause → Bool) → Type 0
Tests g f test = (tag : Tag) (lits : Bor (List ℕ)) (r : Bool) → g.post f (tag, (lits, tt)) r → r ≡ test (record { tag = tag; lits = lits.now })
