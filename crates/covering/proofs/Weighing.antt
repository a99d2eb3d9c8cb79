-- The weight of a live label. Assumes nothing.
use Rattle.std.proofs.Common.{◌≡◌, ℕ, ◌-◌, ◌<◌, ◌≤◌, true, false, List, length, refl, arith}
use Rattle.std.proofs.ByRecursion.{All-get_or}
use Rattle.std.proofs.lemmas.Bool.{both_ways}
use Rattle.sheet.specs.declared.row.Item.{Item}
use Rattle.sheet.specs.declared.row.Standing.{Standing}
use Rattle.sheet.specs.declared.row.Standing.TheVariants.{Plain, Label, Fixed, Covered, Forced}
use Rattle.sheet.specs.Rows.{absent, item_at}
use Rattle.sheet.specs.Together.{OrdinalOf}
use Rattle.steps.specs.Rewriting.{is_payable, payable_at}
use Rattle.rewriting.proofs.Rows.{item_is}
use Rattle.covering.specs.Labels.{Weighed}

label_ordinal : (softs n : ℕ) (x : Standing) → is_payable x ≡ true → OrdinalOf softs x n → n < softs
label_ordinal softs n Plain payable of = absurd (both_ways false refl payable)
label_ordinal softs n Label payable of = of
label_ordinal softs n Fixed payable of = absurd (both_ways false refl payable)
label_ordinal softs n Covered payable of = absurd (both_ways false refl payable)
label_ordinal softs n Forced payable of = absurd (both_ways false refl payable)

pub weighed_label : {W : Type 0} (row : List Item) (weights : List W) (i : ℕ) → 1 ≤ i → i ≤ length row → payable_at row i ≡ true → Weighed row weights
    → (item_at row i).ordinal < length weights
weighed_label row weights i low high payable weighed =
    let ordinal : OrdinalOf (length weights) (item_at row i).standing (item_at row i).ordinal =
    rw (item_is row i absent low high) at (All-get_or (λ x. OrdinalOf (length weights) x.standing x.ordinal) row (i - 1) absent (omega arith) weighed) in
    label_ordinal (length weights) _ (item_at row i).standing payable ordinal
