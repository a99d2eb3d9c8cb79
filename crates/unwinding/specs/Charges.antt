-- The labels that a cost charges, and what it comes to. Assumes nothing.
use Rattle.std.specs.Prelude.{ℕ, Bool, true, false, ◌&&◌, List, map}
use Rattle.std.specs.List.{AllByRecursion}
use Rattle.weight.specs.declared.kind.Weight.{Ghosts}
use Rattle.sheet.specs.Rows.{is_label}
use Rattle.sheet.specs.Together.{OrdinalOf}
use Rattle.sheet.specs.declared.row.Item.{Item}
use Rattle.sheet.specs.declared.row.Standing.{Standing}
use Rattle.sheet.specs.declared.row.Standing.TheVariants.{Plain, Label, Fixed, Covered, Forced}
use Rattle.meaning.specs.Answers.{row_cost, paid_cost}
use Rattle.unwinding.specs.Bytes.{values_of}
use Rattle.unwinding.specs.declared.costs.Bill.{Bill}
use Rattle.unwinding.specs.declared.costs.Bill.TheVariants.{Sheet, Plan}

-- whether a bill charges an item of such a standing that is yes or no
abbrev pub charged : Bill → Standing → Bool → Bool
charged Sheet Plain is_yes = false
charged Sheet Label is_yes = is_yes
charged Sheet Fixed is_yes = false
charged Sheet Covered is_yes = false
charged Sheet Forced is_yes = true
charged Plan s is_yes = is_label s && is_yes

-- every label has one of the weights, and any other item the ordinal 0
abbrev pub Weighed : ℕ → List Item → Type 0
Weighed softs row = AllByRecursion (λ x. OrdinalOf softs x.standing x.ordinal) row

-- The two costs, for a lent row, lent weights and an answer in bytes.

abbrev pub sheet_cost_in : {W : Type 0} (m : Ghosts W) → List Item → List W → List ℕ → m.Value
sheet_cost_in m row weights answer = row_cost m.kind (map m.value weights) (values_of answer) 1 row

abbrev pub paid_cost_in : {W : Type 0} (m : Ghosts W) → List Item → List W → List ℕ → m.Value
paid_cost_in m row weights answer = paid_cost m.kind (map m.value weights) (values_of answer) 1 row

-- the cost that is asked for
abbrev pub cost_in : {W : Type 0} (m : Ghosts W) → Bill → List Item → List W → List ℕ → m.Value
cost_in m Sheet row weights answer = sheet_cost_in m row weights answer
cost_in m Plan row weights answer = paid_cost_in m row weights answer
