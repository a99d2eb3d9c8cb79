-- Blocked clause elimination (b): a clause goes, and is recorded, if it has a plain literal whose denial stands only in clauses that also deny another plain literal of it.
-- Assumes nothing.
use Rattle.std.specs.Prelude.{◌≡◌, ℕ, Bool, true, not, ◌&&◌, ◌||◌, List, [], ◌∷◌, ◌++◌, Some, None, Option, ◌==◌}
use Rattle.std.specs.Option.{option_map}
use Rattle.sheet.specs.Literals.{opposite, has}
use Rattle.sheet.specs.declared.row.Item.{Item}
use Rattle.sheet.specs.Clauses.{Clause}
use Rattle.sheet.specs.Records.{Record}
use Rattle.sheet.specs.Sheets.{Sheet}
use Rattle.meaning.specs.Steps.{Runs, repeated_step}
use Rattle.steps.specs.Places.{some, every, first_made, first_word}
use Rattle.steps.specs.Rooms.{Room, records_fit}
use Rattle.steps.specs.Rewriting.{plain_lit}

-- d denies x, a plain literal other than w
abbrev pub denies_other : List Item → ℕ → Clause → ℕ → Bool
denies_other row w d x = not (x == w) && (plain_lit row x && has (opposite x) d.lits)

-- d lacks the denial of w, or denies another plain literal of c
abbrev pub blocks : List Item → Clause → ℕ → Clause → Bool
blocks row c w d = not (has (opposite w) d.lits) || some (denies_other row w d) c.lits

abbrev pub is_blocked : List Item → List Clause → Clause → ℕ → Bool
is_blocked row cs c w = plain_lit row w && every (blocks row c w) cs

-- a clause taken out, with its witness
pub record Blocked : Type 0 where
  pub witness : ℕ
  pub clause : Clause
  pub others : List Clause

abbrev pub blocked_here : List Item → List Clause → List Clause → Clause → List Clause → Option Blocked
blocked_here row cs before c rest = option_map (λ w. record { witness = w; clause = c; others = before ++ rest }) (first_word (is_blocked row cs c) c.lits)

abbrev pub first_blocked : {V : Type 0} → Sheet V → Option Blocked
first_blocked s = first_made (blocked_here s.row s.clauses) [] s.clauses

abbrev pub block_record : Blocked → Record
block_record p = record { code = 2; lits = p.clause.lits; witness = p.witness }

abbrev pub blocked_out : {V : Type 0} → Sheet V → Blocked → Sheet V
blocked_out s p = record { callers = s.callers; row = s.row; clauses = p.others; stack = s.stack ++ block_record p ∷ []; weights = s.weights }

unfoldable pub blocking : {V : Type 0} → Sheet V → Option (Sheet V)
blocking s = option_map (blocked_out s) (first_blocked s)

abbrev pub block_fits : {V : Type 0} → Room → Sheet V → Option Blocked → Bool
block_fits room s None = true
block_fits room s (Some p) = records_fit room s (block_record p ∷ [])

unfoldable pub BlockingRuns : {V : Type 0} → Room → Runs (Sheet V)
BlockingRuns room n s o = o ≡ repeated_step blocking (λ t. block_fits room t (first_blocked t)) n s
