-- What steps make of literals, clauses and items. Assumes nothing.
use Rattle.std.specs.Prelude.{ℕ, ◌-◌, Bool, true, false, not, ◌&&◌, List, [], ◌∷◌, filter, ◌==◌, slice_set}
use Rattle.sheet.specs.Literals.{item_of, has}
use Rattle.sheet.specs.declared.row.Item.{Item}
use Rattle.sheet.specs.declared.row.Standing.{Standing}
use Rattle.sheet.specs.declared.row.Standing.TheVariants.{Plain, Label, Fixed, Covered, Forced}
use Rattle.sheet.specs.Rows.{item_at}
use Rattle.sheet.specs.Clauses.{Clause}
use Rattle.sheet.specs.Sheets.{Sheet}

-- each of the first is among the second
abbrev pub inside : List ℕ → List ℕ → Bool
inside [] ys = true
inside (x ∷ xs) ys = has x ys && inside xs ys

abbrev pub is_other : ℕ → ℕ → Bool
is_other w x = not (x == w)

-- the literals but w
abbrev pub but : ℕ → List ℕ → List ℕ
but w ws = filter (is_other w) ws

-- the clause with other literals
abbrev pub with_lits : Clause → List ℕ → Clause
with_lits c ws = record { tag = c.tag; lits = ws }

abbrev pub lacking : ℕ → Clause → Clause
lacking w c = with_lits c (but w c.lits)

abbrev pub has_lit : ℕ → Clause → Bool
has_lit w c = has w c.lits

abbrev pub lacks : ℕ → Clause → Bool
lacks w c = not (has w c.lits)

-- the clauses with a literal
abbrev pub having : ℕ → List Clause → List Clause
having w cs = filter (has_lit w) cs

-- live plain, and live label
abbrev pub is_plain : Standing → Bool
is_plain Plain = true
is_plain Label = false
is_plain Fixed = false
is_plain Covered = false
is_plain Forced = false

abbrev pub is_payable : Standing → Bool
is_payable Plain = false
is_payable Label = true
is_payable Fixed = false
is_payable Covered = false
is_payable Forced = false

abbrev pub plain_at : List Item → ℕ → Bool
plain_at row i = is_plain (item_at row i).standing

abbrev pub payable_at : List Item → ℕ → Bool
payable_at row i = is_payable (item_at row i).standing

abbrev pub plain_lit : List Item → ℕ → Bool
plain_lit row w = plain_at row (item_of w)

-- item i with another standing
abbrev pub retired : List Item → ℕ → Standing → List Item
retired row i standing = slice_set row (i - 1) (record { standing = standing; ordinal = (item_at row i).ordinal })

abbrev pub with_clauses : {V : Type 0} → Sheet V → List Clause → Sheet V
with_clauses s cs = record { callers = s.callers; row = s.row; clauses = cs; stack = s.stack; weights = s.weights }
