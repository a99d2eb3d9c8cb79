-- What a bill comes to is within the ceiling where the total of all weights is. Assumes nothing.
use Rattle.std.proofs.Common.{◌≡◌, ℕ, suc, ◌<◌, Bool, true, false, cond, List, [], ◌∷◌, ◌++◌, map, length, sym, refl, ap, ◌∙◌, subst, inl, inr}
use Rattle.std.specs.List.{AllByRecursion}
use Rattle.std.proofs.lemmas.List.{length-map, length-take-le}
use Rattle.std.proofs.lemmas.Bool.{cases_Bool, both_ways, cond-true, cond-false}
use Rattle.weight.specs.Kind.{Kind, Lawful, total_of}
use Rattle.weight.specs.declared.kind.Weight.{Ghosts}
use Rattle.weight.proofs.Orders.{zero_sum}
use Rattle.sheet.specs.declared.row.Item.{Item}
use Rattle.sheet.specs.declared.buffers.Phase.{Phase}
use Rattle.sheet.specs.Clauses.{soft_ordinals}
use Rattle.sheet.specs.Rows.{is_label, label_ordinals}
use Rattle.sheet.specs.Sheets.{Lent, used_clauses, used_row, used_weights}
use Rattle.sheet.specs.Together.{Distinct, HoldsTogether}
use Rattle.meaning.specs.Answers.{Values, weight_of, row_cost, paid_cost}
use Rattle.unwinding.specs.declared.costs.Bill.{Bill}
use Rattle.unwinding.specs.declared.costs.Bill.TheVariants.{Sheet, Plan}
use Rattle.unwinding.specs.Charges.{Weighed, charged}
use Rattle.unwinding.proofs.Billing.{billed, charged_label, label_ordinal, row_cost_billed, paid_cost_billed}
use Rattle.unwinding.proofs.Parts.{Part, part_within, part_zero, part_self, part_trans, part_sum, distinct_part}

labels_ranged : (softs : ℕ) (row : List Item) → Weighed softs row → AllByRecursion (λ n. n < softs) (label_ordinals row)
labels_ranged softs [] fits = tt
labels_ranged softs (x ∷ xs) fits = elim (cases_Bool (is_label x.standing)) [
  | inl is ↦ subst (λ ns. AllByRecursion (λ n. n < softs) ns) (sym (cond-true _ _ _ is)) (label_ordinal softs x.standing x.ordinal fits.0 is, labels_ranged softs xs fits.1)
  | inr other ↦ subst (λ ns. AllByRecursion (λ n. n < softs) ns) (sym (cond-false _ _ _ other)) (labels_ranged softs xs fits.1)
]

distinct_behind : (ns ms : List ℕ) → Distinct (ns ++ ms) → Distinct ms
distinct_behind [] ms apart = apart
distinct_behind (n ∷ ns) ms apart = distinct_behind ns ms apart.1

module _ {V : Type 0} {k : Kind V} (laws : Lawful k) where
  cond_part : (b : Bool) (x : V) → Part k (cond b x k.zero) x
  cond_part true x = part_self laws x
  cond_part false x = part_zero laws x

  -- a bill charges a part of the labels' weights
  charged_part : (bill : Bill) (weights : List V) (v : Values) (i : ℕ) (row : List Item) → Part k (billed k bill weights v i row) (total_of k (weight_of k weights) (label_ordinals row))
  charged_part bill weights v i [] = part_zero laws k.zero
  charged_part bill weights v i (x ∷ xs) =
      let w = weight_of k weights x.ordinal in
      let here = charged bill x.standing (v i) in
      let behind = charged_part bill weights v (suc i) xs in
      let more = λ (ns : List ℕ). Part k (billed k bill weights v i (x ∷ xs)) (total_of k (weight_of k weights) ns) in
      elim (cases_Bool (is_label x.standing)) [
        | inl is ↦ subst more (sym (cond-true _ _ _ is)) (part_sum laws (cond_part here w) behind)
        | inr other ↦
            let free : here ≡ false = elim (cases_Bool here) [ inl h ↦ absurd (both_ways _ other (charged_label bill x.standing (v i) h)) | inr h ↦ h ] in
            let same : billed k bill weights v (suc i) xs ≡ billed k bill weights v i (x ∷ xs) = sym (ap (λ b. k.sum (cond b w k.zero) (billed k bill weights v (suc i) xs)) free ∙ zero_sum laws _) in
            subst more (sym (cond-false _ _ _ other)) (subst (λ c. Part k c (total_of k (weight_of k weights) (label_ordinals xs))) same behind)
      ]

  total_map : {W : Type 0} (value : W → V) (ws : List W) → total_of k (λ x. x) (map value ws) ≡ total_of k value ws
  total_map value [] = refl
  total_map value (w ∷ ws) = ap (k.sum (value w)) (total_map value ws)

  -- labels of different softs, each with a weight, and a total within the ceiling
  module _ {W : Type 0} (value : W → V) (ws : List W) (row : List Item) (apart : Distinct (label_ordinals row)) (ranged : AllByRecursion (λ n. n < length ws) (label_ordinals row)) (fits : k.within (total_of k value ws) ≡ true) (v : Values) where
    billed_within : (bill : Bill) → k.within (billed k bill (map value ws) v 1 row) ≡ true
    billed_within bill =
        let inside = subst (λ n. AllByRecursion (λ m. m < n) (label_ordinals row)) (sym (length-map ws value)) ranged in
        part_within laws (part_trans laws (charged_part bill (map value ws) v 1 row) (distinct_part laws (label_ordinals row) (map value ws) apart inside)) (ap k.within (total_map value ws) ∙ fits)

    pub row_cost_within : k.within (row_cost k (map value ws) v 1 row) ≡ true
    row_cost_within = ap k.within (row_cost_billed k (map value ws) v 1 row) ∙ billed_within Sheet

    pub paid_cost_within : k.within (paid_cost k (map value ws) v 1 row) ≡ true
    paid_cost_within = ap k.within (paid_cost_billed k (map value ws) v 1 row) ∙ billed_within Plan

-- On a sheet that holds together both costs are answered.
module _ {W : Type 0} (m : Ghosts W) (laws : Lawful m.kind) {phase : Phase} {b : Lent W} (together : HoldsTogether m phase b) where
  apart : Distinct (label_ordinals (used_row b))
  apart = distinct_behind (soft_ordinals (used_clauses b)) (label_ordinals (used_row b)) together.row.apart

  ranged : AllByRecursion (λ n. n < length (used_weights b)) (label_ordinals (used_row b))
  ranged = subst (λ n. AllByRecursion (λ i. i < n) (label_ordinals (used_row b))) (sym (length-take-le b.counts.softs b.weights together.weights.fits)) (labels_ranged b.counts.softs (used_row b) together.row.ranged)

  pub held_row_cost_within : (v : Values) → m.kind.within (row_cost m.kind (map m.value (used_weights b)) v 1 (used_row b)) ≡ true
  held_row_cost_within = row_cost_within laws m.value (used_weights b) (used_row b) apart ranged together.weights.ceiling

  pub held_paid_cost_within : (v : Values) → m.kind.within (paid_cost m.kind (map m.value (used_weights b)) v 1 (used_row b)) ≡ true
  held_paid_cost_within = paid_cost_within laws m.value (used_weights b) (used_row b) apart ranged together.weights.ceiling
