-- What adds and a close make of a new sheet. Assumes nothing.
use Rattle.std.specs.Prelude.{ℕ, List, [], ◌∷◌, ◌++◌, pos, negsuc}
use Rattle.sheet.specs.Clauses.{encode}
use Rattle.sheet.specs.Sheets.{Sheet}
use Rattle.meaning.specs.Accepted.{Accepted, must, wish}
use Rattle.meaning.specs.Calls.{opened, after_add, closed}
use Rattle.examples.specs.Showing.{Example, labels_from}

-- The sheet that these adds make of a new one.
abbrev pub gathered : {V : Type 0} → Sheet V → List (Accepted V) → Sheet V
gathered s [] = s
gathered s (a ∷ rest) = gathered (after_add s a) rest

-- 1 or 2; not 3 or 2; rather not 1, for 5; rather not 2, for 3; rather 3, for 2
abbrev pub small : Sheet ℕ
small = closed (gathered (opened 3) (
    must (pos 1 ∷ pos 2 ∷ [])
    ∷ must (negsuc 2 ∷ pos 2 ∷ [])
    ∷ wish (negsuc 0 ∷ []) 5
    ∷ wish (negsuc 1 ∷ []) 3
    ∷ wish (pos 3 ∷ []) 2
    ∷ []))

-- {1, 2}, {2, not 3} and {3, 4}, each with its header
abbrev pub small_instance_closes : Example
small_instance_closes = record {
  computed = encode small.clauses;
  expected = 12290 ∷ 1 ∷ 2 ∷ 12290 ∷ 2 ∷ 32771 ∷ 12290 ∷ 3 ∷ 4 ∷ [];
}

-- items 1 and 2 are lent by the first two softs, item 4 is fresh
abbrev pub small_instance_labels : Example
small_instance_labels = record {
  computed = labels_from 1 small.row;
  expected = 1 ∷ 0 ∷ 2 ∷ 1 ∷ 4 ∷ 2 ∷ [];
}

-- "not 1" twice as a soft: neither lends item 1, and each takes in a fresh label
abbrev pub denied_twice : Sheet ℕ
denied_twice = closed (gathered (opened 1) (wish (negsuc 0 ∷ []) 1 ∷ wish (negsuc 0 ∷ []) 1 ∷ []))

abbrev pub denied_twice_gets_two_labels : Example
denied_twice_gets_two_labels = record {
  computed = encode denied_twice.clauses ++ labels_from 1 denied_twice.row;
  expected = 12290 ∷ 2 ∷ 32769 ∷ 12290 ∷ 3 ∷ 32769 ∷ 2 ∷ 0 ∷ 3 ∷ 1 ∷ [];
}
