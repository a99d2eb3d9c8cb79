-- Rows of worked examples, and sheets told as numbers. Assumes nothing.
use Rattle.std.specs.Prelude.{◌≡◌, ℕ, zero, suc, false, cond, List, [], ◌∷◌, ◌++◌, map, length, ◌==◌, slice_index}
use Rattle.weight.specs.Wholes.{wholes}
use Rattle.sheet.specs.declared.row.Item.{Item}
use Rattle.sheet.specs.declared.row.Standing.{Standing}
use Rattle.sheet.specs.declared.row.Standing.TheVariants.{Plain, Label, Fixed, Covered, Forced}
use Rattle.sheet.specs.Rows.{is_label}
use Rattle.sheet.specs.Sheets.{Sheet}
use Rattle.meaning.specs.Answers.{Values, cost, paid_cost}
use Rattle.meaning.specs.Unwinding.{plan_of}

-- what the definitions come to, and what they should come to
pub record Example : Type 0 where
  pub computed : List ℕ
  pub expected : List ℕ

abbrev pub Holds : Example → Type 0
Holds row = row.computed ≡ row.expected

-- the labels of a row whose first item is item i, each with its ordinal
abbrev pub labels_from : ℕ → List Item → List ℕ
labels_from i [] = []
labels_from i (x ∷ xs) = cond (is_label x.standing) (i ∷ x.ordinal ∷ labels_from (suc i) xs) (labels_from (suc i) xs)

abbrev pub standing_number : Standing → ℕ
standing_number Plain = 0
standing_number Label = 1
standing_number Fixed = 2
standing_number Covered = 3
standing_number Forced = 4

abbrev pub standings : {V : Type 0} → Sheet V → List ℕ
standings s = map (λ x. standing_number x.standing) s.row

-- yes is 1, from item 1 on
abbrev pub values_of : List ℕ → Values
values_of bs zero = false
values_of bs (suc i) = slice_index bs i == 1

-- the values of items 1 to n
abbrev pub bits : Values → ℕ → List ℕ
bits v zero = []
bits v (suc n) = bits v n ++ cond (v (suc n)) 1 0 ∷ []

-- the values of an answer and of the plan that it unwinds to, then what the answer costs and what the plan pays
abbrev pub unwinding : Sheet ℕ → Values → List ℕ
unwinding s v = bits v (length s.row) ++ bits (plan_of s v) (length s.row) ++ cost wholes s v ∷ paid_cost wholes s.weights (plan_of s v) 1 s.row ∷ []
