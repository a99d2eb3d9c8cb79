-- Answers of a sheet (the field's models) and what they cost. Assumes nothing.
use Rattle.std.specs.Prelude.{◌≡◌, ℕ, suc, Bool, true, false, cond, not, ◌&&◌, ◌||◌, List, [], ◌∷◌, slice_index_or}
use Rattle.weight.specs.Kind.{Kind}
use Rattle.sheet.specs.Literals.{item_of, denied}
use Rattle.sheet.specs.declared.row.Item.{Item}
use Rattle.sheet.specs.declared.row.Standing.{Standing}
use Rattle.sheet.specs.declared.row.Standing.TheVariants.{Plain, Label, Fixed, Covered, Forced}
use Rattle.sheet.specs.declared.clause.Tag.{Tag}
use Rattle.sheet.specs.declared.clause.Tag.TheVariants.{Hard, Soft, Working}
use Rattle.sheet.specs.Clauses.{Clause}
use Rattle.sheet.specs.Rows.{is_label}
use Rattle.sheet.specs.Sheets.{Sheet}

-- yes or no for each item
abbrev pub Values : Type 0
Values = ℕ → Bool

abbrev pub is_true : Values → ℕ → Bool
is_true v w = cond (denied w) (not (v (item_of w))) (v (item_of w))

-- one of the literals is true
abbrev pub met : Values → List ℕ → Bool
met v [] = false
met v (w ∷ ws) = is_true v w || met v ws

-- a soft clause binds nobody
abbrev pub kept_as : Tag → Bool → Bool
kept_as Hard is_met = is_met
kept_as (Soft n) is_met = true
kept_as Working is_met = is_met

abbrev pub meets_all : Values → List Clause → Bool
meets_all v [] = true
meets_all v (c ∷ cs) = kept_as c.tag (met v c.lits) && meets_all v cs

-- Values that meet every hard or working clause. Only those of live items count, since a sheet that holds together names no others.
abbrev pub Answer : {V : Type 0} → Sheet V → Values → Type 0
Answer s v = meets_all v s.clauses ≡ true

module _ {V : Type 0} (k : Kind V) where
  abbrev pub weight_of : List V → ℕ → V
  weight_of weights n = slice_index_or weights n k.zero

  -- a live label costs its weight when it is yes, a forced one always
  abbrev pub charge : V → Standing → Bool → V
  charge w Plain yes' = k.zero
  charge w Label yes' = cond yes' w k.zero
  charge w Fixed yes' = k.zero
  charge w Covered yes' = k.zero
  charge w Forced yes' = w

  -- the charges of a row whose first item is item i
  abbrev pub row_cost : List V → Values → ℕ → List Item → V
  row_cost weights v i [] = k.zero
  row_cost weights v i (x ∷ xs) = k.sum (charge (weight_of weights x.ordinal) x.standing (v i)) (row_cost weights v (suc i) xs)

  -- a soft clause costs its weight when it is broken
  abbrev pub owed : List V → Tag → Bool → V
  owed weights Hard is_met = k.zero
  owed weights (Soft n) is_met = cond is_met k.zero (weight_of weights n)
  owed weights Working is_met = k.zero

  abbrev pub soft_cost : List V → Values → List Clause → V
  soft_cost weights v [] = k.zero
  soft_cost weights v (c ∷ cs) = k.sum (owed weights c.tag (met v c.lits)) (soft_cost weights v cs)

  -- The labels charged, and the softs broken: a gathering sheet has no labels yet, and a working sheet no softs any more.
  abbrev pub cost : Sheet V → Values → V
  cost s v = k.sum (row_cost s.weights v 1 s.row) (soft_cost s.weights v s.clauses)

  -- the labels that are yes, live or retired, of a row whose first item is item i
  abbrev pub paid_cost : List V → Values → ℕ → List Item → V
  paid_cost weights v i [] = k.zero
  paid_cost weights v i (x ∷ xs) = k.sum (cond (is_label x.standing && v i) (weight_of weights x.ordinal) k.zero) (paid_cost weights v (suc i) xs)

  abbrev pub AtMost : V → V → Type 0
  AtMost x y = k.at_most x y ≡ true
