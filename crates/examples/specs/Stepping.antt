-- One step of a rule, on sheets written by hand. Assumes nothing.
use Rattle.std.specs.Prelude.{ℕ, List, [], ◌∷◌, ◌++◌, map, length, Some, None, Option}
use Rattle.weight.specs.Wholes.{wholes}
use Rattle.sheet.specs.declared.row.Item.{Item}
use Rattle.sheet.specs.declared.clause.Tag.TheVariants.{Working}
use Rattle.sheet.specs.Clauses.{Clause, encode}
use Rattle.sheet.specs.Sheets.{Sheet}
use Rattle.meaning.specs.Calls.{plain_item, label_item}
use Rattle.steps.specs.Subsumption.{subsumption}
use Rattle.steps.specs.Propagation.{propagation}
use Rattle.steps.specs.Elimination.{elimination, resolvents}
use Rattle.steps.specs.Covering.{covering}
use Rattle.examples.specs.Showing.{Example, standings}

abbrev pub working : List ℕ → Clause
working ws = record { tag = Working; lits = ws }

-- nothing recorded yet
abbrev pub sheet_of : List Item → List ℕ → List (List ℕ) → Sheet ℕ
sheet_of row weights clauses = record { callers = length row; row = row; clauses = map working clauses; stack = []; weights = weights }

-- the words of the clauses after a step, then the items' standings; nothing if no step was made
abbrev pub after : Option (Sheet ℕ) → List ℕ
after None = []
after (Some s) = encode s.clauses ++ standings s

-- {1} and {1}: one goes, and item 1 stays plain
abbrev pub equal_clauses_leave_one : Example
equal_clauses_leave_one = record {
  computed = after (subsumption (sheet_of (plain_item ∷ []) [] ((1 ∷ []) ∷ (1 ∷ []) ∷ [])));
  expected = 12289 ∷ 1 ∷ 0 ∷ [];
}

-- {1}, {2} and {1}: the last goes
abbrev pub of_equal_clauses_the_later_goes : Example
of_equal_clauses_the_later_goes = record {
  computed = after (subsumption (sheet_of (plain_item ∷ plain_item ∷ []) [] ((1 ∷ []) ∷ (2 ∷ []) ∷ (1 ∷ []) ∷ [])));
  expected = 12289 ∷ 1 ∷ 12289 ∷ 2 ∷ 0 ∷ 0 ∷ [];
}

-- {1} and {not 1}: the empty clause is left, and item 1 fixed
abbrev pub contradiction_leaves_the_empty_clause : Example
contradiction_leaves_the_empty_clause = record {
  computed = after (propagation (sheet_of (plain_item ∷ []) [] ((1 ∷ []) ∷ (32769 ∷ []) ∷ [])));
  expected = 12288 ∷ 2 ∷ [];
}

-- {1, 2}, both labels of weight 7: item 1 is covered, and {2} left
abbrev pub equal_labels_cover_the_lower : Example
equal_labels_cover_the_lower = record {
  computed = after (covering wholes (sheet_of (label_item 0 ∷ label_item 1 ∷ []) (7 ∷ 7 ∷ []) ((1 ∷ 2 ∷ []) ∷ [])));
  expected = 12289 ∷ 2 ∷ 3 ∷ 1 ∷ [];
}

-- {1, 2}, {1, 3}, {1, 2, 3}, {not 1, 2, 3} and {not 1, 3}, of which 2 and 3 are labels
abbrev pub three_by_two : Sheet ℕ
three_by_two = sheet_of (plain_item ∷ label_item 0 ∷ label_item 1 ∷ []) (1 ∷ 1 ∷ []) ((1 ∷ 2 ∷ []) ∷ (1 ∷ 3 ∷ []) ∷ (1 ∷ 2 ∷ 3 ∷ []) ∷ (2 ∷ 3 ∷ 32769 ∷ []) ∷ (3 ∷ 32769 ∷ []) ∷ [])

-- six resolvents of five clauses: no step is made
abbrev pub more_resolvents_than_clauses_stay : Example
more_resolvents_than_clauses_stay = record {
  computed = after (elimination three_by_two) ++ length (resolvents 1 three_by_two.clauses) ∷ [];
  expected = 6 ∷ [];
}
