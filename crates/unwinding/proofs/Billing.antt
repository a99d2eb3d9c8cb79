-- What a bill comes to, and a loop that adds it up. Assumes nothing.
use Rattle.std.proofs.Common.{◌≡◌, ℕ, suc, ◌+◌, ◌<◌, ◌≤◌, Bool, true, false, cond, List, [], ◌∷◌, map, length, get_or, drop, sym, refl, ap, ◌∙◌, ap₂, inl, inr, add-one}
use Rattle.std.proofs.lemmas.List.{at_drop_more, at_drop_all, get_or-map}
use Rattle.std.proofs.ByRecursion.{All-get_or}
use Rattle.std.proofs.lemmas.Bool.{cases_Bool, both_ways, and_parts, cond-true, cond-false, false≢true}
use Rattle.weight.specs.Kind.{Kind, Lawful}
use Rattle.weight.specs.declared.kind.Weight.{Ghosts}
use Rattle.weight.proofs.Orders.{zero_sum}
use Rattle.sheet.specs.declared.row.Item.{Item}
use Rattle.sheet.specs.declared.row.Standing.{Standing}
use Rattle.sheet.specs.declared.row.Standing.TheVariants.{Plain, Label, Fixed, Covered, Forced}
use Rattle.sheet.specs.Rows.{is_label}
use Rattle.sheet.specs.Together.{OrdinalOf}
use Rattle.meaning.specs.Answers.{Values, weight_of, charge, row_cost, paid_cost}
use Rattle.unwinding.specs.declared.costs.Bill.{Bill}
use Rattle.unwinding.specs.declared.costs.Bill.TheVariants.{Sheet, Plan}
use Rattle.unwinding.specs.Bytes.{values_of}
use Rattle.unwinding.specs.Charges.{Weighed, charged, cost_in}

-- only labels are charged
pub charged_label : (bill : Bill) (s : Standing) (is_yes : Bool) → charged bill s is_yes ≡ true → is_label s ≡ true
charged_label Sheet Plain is_yes is = absurd (false≢true is)
charged_label Sheet Label is_yes is = refl
charged_label Sheet Fixed is_yes is = absurd (false≢true is)
charged_label Sheet Covered is_yes is = absurd (false≢true is)
charged_label Sheet Forced is_yes is = refl
charged_label Plan s is_yes is = (and_parts (is_label s) is_yes is).0

pub label_ordinal : (softs : ℕ) (s : Standing) (n : ℕ) → OrdinalOf softs s n → is_label s ≡ true → n < softs
label_ordinal softs Plain n fits is = absurd (false≢true is)
label_ordinal softs Label n fits is = fits
label_ordinal softs Fixed n fits is = absurd (false≢true is)
label_ordinal softs Covered n fits is = fits
label_ordinal softs Forced n fits is = fits

pub charged_ordinal : (bill : Bill) (softs : ℕ) (row : List Item) (i : ℕ) (d : Item) (is_yes : Bool) → Weighed softs row → i < length row → charged bill (get_or row i d).standing is_yes ≡ true → (get_or row i d).ordinal < softs
charged_ordinal bill softs row i d is_yes fits inside is =
    label_ordinal softs (get_or row i d).standing (get_or row i d).ordinal (All-get_or _ row i d inside fits) (charged_label bill _ is_yes is)

-- What a bill comes to for a row whose first item is item i.
abbrev pub billed : {V : Type 0} → Kind V → Bill → List V → Values → ℕ → List Item → V
billed k bill weights v i [] = k.zero
billed k bill weights v i (x ∷ xs) = k.sum (cond (charged bill x.standing (v i)) (weight_of k weights x.ordinal) k.zero) (billed k bill weights v (suc i) xs)

module _ {V : Type 0} (k : Kind V) where
  -- a weight by the ordinal that was read
  pub weight_at : {W : Type 0} (value : W → V) (ws : List W) (w : W) (n m : ℕ) → m ≡ n → n < length ws → w ≡ get_or ws m w → value w ≡ weight_of k (map value ws) n
  weight_at value ws w n m same inside read = ap value (read ∙ ap (λ j. get_or ws j w) same) ∙ sym (get_or-map value ws n w k.zero inside)

  charge_is : (w : V) (s : Standing) (is_yes : Bool) → charge k w s is_yes ≡ cond (charged Sheet s is_yes) w k.zero
  charge_is w Plain is_yes = refl
  charge_is w Label is_yes = refl
  charge_is w Fixed is_yes = refl
  charge_is w Covered is_yes = refl
  charge_is w Forced is_yes = refl

  pub row_cost_billed : (weights : List V) (v : Values) (i : ℕ) (row : List Item) → row_cost k weights v i row ≡ billed k Sheet weights v i row
  row_cost_billed weights v i [] = refl
  row_cost_billed weights v i (x ∷ xs) = ap₂ k.sum (charge_is (weight_of k weights x.ordinal) x.standing (v i)) (row_cost_billed weights v (suc i) xs)

  pub paid_cost_billed : (weights : List V) (v : Values) (i : ℕ) (row : List Item) → paid_cost k weights v i row ≡ billed k Plan weights v i row
  paid_cost_billed weights v i [] = refl
  paid_cost_billed weights v i (x ∷ xs) = ap (k.sum _) (paid_cost_billed weights v (suc i) xs)

-- each cost is what its bill comes to
pub cost_billed : {W : Type 0} (m : Ghosts W) (bill : Bill) (row : List Item) (weights : List W) (answer : List ℕ) → billed m.kind bill (map m.value weights) (values_of answer) 1 row ≡ cost_in m bill row weights answer
cost_billed m Sheet row weights answer = sym (row_cost_billed m.kind (map m.value weights) (values_of answer) 1 row)
cost_billed m Plan row weights answer = sym (paid_cost_billed m.kind (map m.value weights) (values_of answer) 1 row)

-- The sum so far, within the ceiling, with what the rest comes to is what all comes to.
pub record Billing {V : Type 0} (k : Kind V) (bill : Bill) (weights : List V) (v : Values) (row : List Item) (i : ℕ) (sum : V) : Type 0 where
  pub whole : k.sum sum (billed k bill weights v (i + 1) (drop i row)) ≡ billed k bill weights v 1 row
  pub within : k.within sum ≡ true

module _ {V : Type 0} {k : Kind V} (laws : Lawful k) where
  pub billing_none : (bill : Bill) (weights : List V) (v : Values) (row : List Item) (sum : V) → sum ≡ k.zero → Billing k bill weights v row 0 sum
  billing_none bill weights v row sum is = record {
    whole = ap (λ u. k.sum u (billed k bill weights v 1 row)) is ∙ zero_sum laws (billed k bill weights v 1 row);
    within = ap k.within is ∙ laws.zero_within;
  }

  module _ {bill : Bill} {weights : List V} {v : Values} {row : List Item} {i : ℕ} {sum : V} (here : Billing k bill weights v row i sum) where
    pub billing_all : length row ≤ i → (k.within (billed k bill weights v 1 row) ≡ true) × (sum ≡ billed k bill weights v 1 row)
    billing_all end =
        let all : sum ≡ billed k bill weights v 1 row = sym (laws.sum_zero sum) ∙ ap (k.sum sum) (sym (at_drop_all (billed k bill weights v (i + 1)) row i end)) ∙ here.whole in
        (ap k.within (sym all) ∙ here.within, all)

    -- at the i-th item
    module _ (inside : i < length row) (d : Item) where
      abbrev rest : V
      rest = billed k bill weights v (i + 1 + 1) (drop (i + 1) row)

      -- what this item adds
      abbrev due : V
      due = cond (charged bill (get_or row i d).standing (v (i + 1))) (weight_of k weights (get_or row i d).ordinal) k.zero

      split : k.sum (k.sum sum due) rest ≡ billed k bill weights v 1 row
      split =
          laws.sum_assoc sum due rest
          ∙ ap (λ n. k.sum sum (k.sum due (billed k bill weights v n (drop (i + 1) row)))) (add-one (i + 1))
          ∙ ap (k.sum sum) (sym (at_drop_more (billed k bill weights v (i + 1)) row i d inside))
          ∙ here.whole

      pub billing_free : charged bill (get_or row i d).standing (v (i + 1)) ≡ false → Billing k bill weights v row (i + 1) sum
      billing_free free = record {
        whole = ap (λ u. k.sum u rest) (sym (ap (k.sum sum) (cond-false _ _ _ free) ∙ laws.sum_zero sum)) ∙ split;
        within = here.within;
      }

      module _ (is : charged bill (get_or row i d).standing (v (i + 1)) ≡ true) {w : V} (weighs : w ≡ weight_of k weights (get_or row i d).ordinal) where
        adds : k.sum sum w ≡ k.sum sum due
        adds = ap (k.sum sum) (weighs ∙ sym (cond-true _ _ _ is))

        pub billing_more : {u : V} → (k.within (k.sum sum w) ≡ true) × (u ≡ k.sum sum w) → Billing k bill weights v row (i + 1) u
        billing_more came = record {
          whole = ap (λ x. k.sum x rest) (came.1 ∙ adds) ∙ split;
          within = ap k.within came.1 ∙ came.0;
        }

        pub billing_past : k.within (k.sum sum w) ≡ false → k.within (billed k bill weights v 1 row) ≡ false
        billing_past past = elim (cases_Bool (k.within (billed k bill weights v 1 row))) [
          | inl h ↦ absurd (both_ways (k.within (k.sum sum w)) past (laws.part_within (k.sum sum w) rest (ap k.within (ap (λ x. k.sum x rest) adds ∙ split) ∙ h)))
          | inr h ↦ h
        ]

-- what a loop that adds up stands on
pub ruleset adding = (cost_billed, charged_ordinal, weight_at, billing_none, billing_free, billing_more, billing_past, billing_all)
