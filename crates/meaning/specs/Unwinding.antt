-- From an answer of a sheet to a plan, along the reconstruction stack. Assumes nothing.
use Rattle.std.specs.Prelude.{ℕ, cond, not, ◌&&◌, List, [], ◌∷◌, ◌==◌}
use Rattle.sheet.specs.Literals.{item_of, denied}
use Rattle.sheet.specs.declared.row.Item.{Item}
use Rattle.sheet.specs.Rows.{live_at}
use Rattle.sheet.specs.Records.{Record}
use Rattle.sheet.specs.Sheets.{Sheet}
use Rattle.meaning.specs.Answers.{Values, met}

-- the values with a literal made true
abbrev pub made_true : Values → ℕ → Values
made_true v w = λ i. cond (i == item_of w) (not (denied w)) (v i)

-- where a record's clause is unmet, its witness is made true
abbrev pub mended : Record → Values → Values
mended r v = cond (met v r.lits) v (made_true v r.witness)

-- from the newest record, the last, to the oldest
abbrev pub unwound : List Record → Values → Values
unwound [] v = v
unwound (r ∷ rs) v = mended r (unwound rs v)

-- retired items are no
abbrev pub reset : List Item → Values → Values
reset row v = λ i. live_at row i && v i

-- the plan that an answer unwinds to
abbrev pub plan_of : {V : Type 0} → Sheet V → Values → Values
plan_of s v = unwound s.stack (reset s.row v)
