-- What a run of a rule means, from the sheet before it to the sheet after it. Assumes nothing.
use Rattle.std.specs.Prelude.{◌≡◌, ℕ, ◌≤◌, true, false, List, ◌++◌, length}
use Rattle.std.specs.List.{AllByRecursion}
use Rattle.weight.specs.Kind.{Kind, total_of}
use Rattle.sheet.specs.declared.buffers.Phase.TheVariants.{Working as at_work}
use Rattle.sheet.specs.declared.clause.Tag.TheVariants.{Working}
use Rattle.sheet.specs.declared.row.Item.{Item}
use Rattle.sheet.specs.Literals.{Literal, item_of}
use Rattle.sheet.specs.Rows.{item_at, live_at, label_at, label_ordinals}
use Rattle.sheet.specs.Clauses.{Valid}
use Rattle.sheet.specs.Records.{Record, ValidRecord}
use Rattle.sheet.specs.Sheets.{Sheet}
use Rattle.sheet.specs.Together.{Stands, Distinct, OrdinalOf}
use Rattle.meaning.specs.declared.report.Ending.{Ending}
use Rattle.meaning.specs.declared.report.Ending.TheVariants.{Limit}
use Rattle.meaning.specs.Answers.{Values, Answer, cost, AtMost}
use Rattle.meaning.specs.Unwinding.{reset, unwound}

-- A working sheet holds together: what the check asks of the buffers, of the sheet that they stand for.
pub record Holds {V : Type 0} (k : Kind V) (s : Sheet V) : Type 0 where
  pub kinds : AllByRecursion (λ c. c.tag ≡ Working) s.clauses
  pub valid : AllByRecursion Valid s.clauses
  pub literals : AllByRecursion (λ c. AllByRecursion (Stands at_work (length s.row) s.row) c.lits) s.clauses
  pub ranged : AllByRecursion (λ x. OrdinalOf (length s.weights) x.standing x.ordinal) s.row
  pub apart : Distinct (label_ordinals s.row)
  pub records : AllByRecursion ValidRecord s.stack
  pub named : AllByRecursion (λ r. AllByRecursion (Literal (length s.row)) r.lits) s.stack
  pub ceiling : k.within (total_of k (λ w. w) s.weights) ≡ true

-- the record names only live items
abbrev pub NamesLive : List Item → Record → Type 0
NamesLive row r = AllByRecursion (λ w. live_at row (item_of w) ≡ true) r.lits

-- A run from s to t. Whatever keeps this counts as a rule.
pub record Meaning {V : Type 0} (k : Kind V) (s t : Sheet V) : Type 0 where
  pub callers : t.callers ≡ s.callers
  pub weights : t.weights ≡ s.weights
  -- no item is new or gone
  pub items : length t.row ≡ length s.row
  pub retired : (i : ℕ) → live_at s.row i ≡ false → item_at t.row i ≡ item_at s.row i
  -- a label stays a label, live or retired, with its ordinal
  pub labels : (i : ℕ) → label_at s.row i ≡ true → (label_at t.row i ≡ true) × ((item_at t.row i).ordinal ≡ (item_at s.row i).ordinal)
  pub holds : Holds k t
  -- old records remain, and new ones name only items live before
  pub news : List Record
  pub stack : t.stack ≡ s.stack ++ news
  pub names : AllByRecursion (NamesLive s.row) news
  -- every answer of t, with the new records unwound, is an answer of s that costs no more
  pub back : (v : Values) → Answer t v → Answer s (unwound news (reset t.row v)) × AtMost k (cost k s (unwound news (reset t.row v))) (cost k t v)
  -- every answer of s has an answer of t that costs no more
  pub forth : (v : Values) → Answer s v → (u : Values) × Answer t u × AtMost k (cost k t u) (cost k s v)

-- what a run comes to
pub record Outcome (X : Type 0) : Type 0 where
  pub steps : ℕ
  pub ending : Ending
  pub left : X

-- A run with this limit from s.
pub record Ran {V : Type 0} (k : Kind V) (limit : ℕ) (s : Sheet V) (o : Outcome (Sheet V)) : Type 0 where
  pub meaning : Meaning k s o.left
  pub spent : o.steps ≤ limit
  pub limited : o.ending ≡ Limit → o.steps ≡ limit
  pub idle : o.steps ≡ 0 → o.left ≡ s
