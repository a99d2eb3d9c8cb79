-- Subsumed label elimination (e): a live label goes if one other live label, no dearer, stands in every clause with it. Assumes nothing.
use Rattle.std.specs.Prelude.{◌≡◌, ℕ, Bool, true, not, ◌&&◌, ◌||◌, map, length, is_some, Option, ◌==◌}
use Rattle.std.specs.Option.{option_map}
use Rattle.weight.specs.Kind.{Kind}
use Rattle.sheet.specs.Literals.{has}
use Rattle.sheet.specs.declared.row.Standing.TheVariants.{Covered}
use Rattle.sheet.specs.Rows.{item_at}
use Rattle.sheet.specs.Clauses.{Clause}
use Rattle.sheet.specs.Sheets.{Sheet}
use Rattle.meaning.specs.Answers.{weight_of}
use Rattle.meaning.specs.Steps.{Runs, repeated_step}
use Rattle.steps.specs.Places.{every, lowest_item, nameable}
use Rattle.steps.specs.Rewriting.{lacking, payable_at, retired}

-- a clause with l has m too
abbrev pub stands : ℕ → ℕ → Clause → Bool
stands l m c = not (has l c.lits) || has m c.lits

module _ {V : Type 0} (k : Kind V) where
  abbrev pub label_weight : Sheet V → ℕ → V
  label_weight s i = weight_of k s.weights (item_at s.row i).ordinal

  -- m is another live label, no dearer, in every clause with l
  abbrev pub covers : Sheet V → ℕ → ℕ → Bool
  covers s l m = payable_at s.row m && (not (m == l) && (k.at_most (label_weight s m) (label_weight s l) && every (stands l m) s.clauses))

  abbrev pub is_covered : Sheet V → ℕ → Bool
  is_covered s l = payable_at s.row l && is_some (lowest_item (covers s l) 1 (nameable (length s.row)))

  -- l leaves all clauses
  abbrev pub covered_out : Sheet V → ℕ → Sheet V
  covered_out s l = record { callers = s.callers; row = retired s.row l Covered; clauses = map (lacking l) s.clauses; stack = s.stack; weights = s.weights }

  unfoldable pub covering : Sheet V → Option (Sheet V)
  covering s = option_map (covered_out s) (lowest_item (is_covered s) 1 (nameable (length s.row)))

  -- its steps take no words
  unfoldable pub CoveringRuns : Runs (Sheet V)
  CoveringRuns n s o = o ≡ repeated_step covering (λ t. true) n s
