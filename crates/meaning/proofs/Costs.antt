-- How costs grow with clauses, weights and items. Assumes nothing.
use Rattle.std.proofs.Common.{◌≡◌, ℕ, zero, suc, ◌+◌, ◌-◌, ◌<◌, ◌≤◌, true, false, cond, List, [], ◌∷◌, ◌++◌, length, get_or, set, sym, refl, ap, ◌∙◌, ap₂, arith}
use Rattle.std.specs.List.{AllByRecursion}
use Rattle.std.proofs.lemmas.List.{get_or_append_left}
use Rattle.std.proofs.lemmas.Bool.{both_ways}
use Rattle.weight.specs.Kind.{Kind, Lawful}
use Rattle.weight.proofs.Orders.{zero_sum}
use Rattle.sheet.specs.declared.row.Item.{Item}
use Rattle.sheet.specs.declared.row.Standing.{Standing}
use Rattle.sheet.specs.declared.row.Standing.TheVariants.{Plain, Label, Fixed, Covered, Forced}
use Rattle.sheet.specs.declared.clause.Tag.{Tag}
use Rattle.sheet.specs.declared.clause.Tag.TheVariants.{Hard, Soft, Working}
use Rattle.sheet.specs.Rows.{is_label, absent, item_at, label_at}
use Rattle.sheet.specs.Clauses.{Clause, ordinal_of, soft_ordinals}
use Rattle.meaning.specs.Answers.{Values, met, weight_of, charge, row_cost, owed, soft_cost, AtMost}
use Rattle.meaning.specs.Accepted.{Accepted, must, wish, sent_met, plan_cost}

-- what an item of the row costs, if it is item i
abbrev pub charged : {V : Type 0} → Kind V → List V → Values → Item → ℕ → V
charged k weights v x i = charge k (weight_of k weights x.ordinal) x.standing (v i)

module _ {V : Type 0} {k : Kind V} (laws : Lawful k) where
  pub sum_both : {a b c d : V} → AtMost k a b → AtMost k c d → AtMost k (k.sum a c) (k.sum b d)
  sum_both {a} {b} {c} {d} one other = laws.trans _ _ _ (laws.sum_keeps a b c one) (rw (laws.sum_comm b c, laws.sum_comm b d) (laws.sum_keeps c d b other))

  -- Clauses.

  pub plans_append : (p : Values) (xs ys : List (Accepted V)) → plan_cost k (xs ++ ys) p ≡ k.sum (plan_cost k xs p) (plan_cost k ys p)
  plans_append p [] ys = sym (zero_sum laws (plan_cost k ys p))
  plans_append p (must zs ∷ xs) ys = plans_append p xs ys
  plans_append p (wish zs w ∷ xs) ys = ap (k.sum _) (plans_append p xs ys) ∙ sym (laws.sum_assoc (cond (sent_met p zs) k.zero w) (plan_cost k xs p) (plan_cost k ys p))

  pub softs_append : (weights : List V) (v : Values) (xs ys : List Clause) → soft_cost k weights v (xs ++ ys) ≡ k.sum (soft_cost k weights v xs) (soft_cost k weights v ys)
  softs_append weights v [] ys = sym (zero_sum laws (soft_cost k weights v ys))
  softs_append weights v (c ∷ cs) ys = ap (k.sum _) (softs_append weights v cs ys) ∙ sym (laws.sum_assoc (owed k weights c.tag (met v c.lits)) (soft_cost k weights v cs) (soft_cost k weights v ys))

  pub working_free : (weights : List V) (v : Values) (cs : List Clause) → AllByRecursion (λ c. c.tag ≡ Working) cs → soft_cost k weights v cs ≡ k.zero
  working_free weights v [] working = refl
  working_free weights v (c ∷ cs) working = ap₂ (λ (t : Tag) (x : V). k.sum (owed k weights t (met v c.lits)) x) working.0 (working_free weights v cs working.1) ∙ laws.sum_zero k.zero

  -- one weight more is none of the softs'
  pub weights_push : (weights : List V) (w : V) (v : Values) (cs : List Clause) → AllByRecursion (λ n. n < length weights) (soft_ordinals cs) → soft_cost k (weights ++ (w ∷ [])) v cs ≡ soft_cost k weights v cs
  weights_push weights w v [] ranged = refl
  weights_push weights w v (c ∷ cs) ranged = by_tag c.tag ranged (weights_push weights w v cs)
    where
      by_tag : (t : Tag) → AllByRecursion (λ n. n < length weights) (ordinal_of t ++ soft_ordinals cs) → (AllByRecursion (λ n. n < length weights) (soft_ordinals cs) → soft_cost k (weights ++ (w ∷ [])) v cs ≡ soft_cost k weights v cs) → k.sum (owed k (weights ++ (w ∷ [])) t (met v c.lits)) (soft_cost k (weights ++ (w ∷ [])) v cs) ≡ k.sum (owed k weights t (met v c.lits)) (soft_cost k weights v cs)
      by_tag Hard ranged rest = ap (k.sum k.zero) (rest ranged)
      by_tag (Soft n) ranged rest = ap₂ (λ (x y : V). k.sum (cond (met v c.lits) k.zero x) y) (get_or_append_left weights (w ∷ []) k.zero n ranged.0) (rest ranged.1)
      by_tag Working ranged rest = ap (k.sum k.zero) (rest ranged)

  -- Items.

  sum_swap : (x y z : V) → k.sum x (k.sum y z) ≡ k.sum y (k.sum x z)
  sum_swap x y z = sym (laws.sum_assoc x y z) ∙ ap (λ s. k.sum s z) (laws.sum_comm x y) ∙ laws.sum_assoc y x z

  module _ (weights : List V) (v : Values) where
    set_from : (row : List Item) (j i m : ℕ) (x : Item) → j < length row → m ≡ i + j → k.sum (charged k weights v (get_or row j absent) m) (row_cost k weights v i (set row j x)) ≡ k.sum (charged k weights v x m) (row_cost k weights v i row)
    set_from [] j i m x inside at = absurd (omega arith)
    set_from (y ∷ ys) zero i m x inside at = let here : m ≡ i = omega arith in rw here (sum_swap _ _ _)
    set_from (y ∷ ys) (suc j) i m x inside at = sum_swap _ _ _ ∙ ap (k.sum _) (set_from ys j (suc i) m x (omega arith) (omega arith)) ∙ sum_swap _ _ _

    push_from : (row : List Item) (i m : ℕ) (x : Item) → m ≡ i + length row → row_cost k weights v i (row ++ (x ∷ [])) ≡ k.sum (charged k weights v x m) (row_cost k weights v i row)
    push_from [] i m x at = let here : m ≡ i = omega arith in rw here
    push_from (y ∷ ys) i m x at = ap (k.sum _) (push_from ys (suc i) m x (omega arith)) ∙ sum_swap _ _ _

    pub row_push : (row : List Item) (x : Item) → row_cost k weights v 1 (row ++ (x ∷ [])) ≡ k.sum (charged k weights v x (suc (length row))) (row_cost k weights v 1 row)
    row_push row x = push_from row 1 (suc (length row)) x (omega arith)

    -- what item m costs is exchanged for what the new one costs
    pub row_set : (row : List Item) (m : ℕ) (x : Item) → 1 ≤ m → m ≤ length row → k.sum (charged k weights v (item_at row m) m) (row_cost k weights v 1 (set row (m - 1) x)) ≡ k.sum (charged k weights v x m) (row_cost k weights v 1 row)
    row_set row zero x low high = absurd (omega arith)
    row_set row (suc j) x low high = let place : suc j - 1 ≡ j = omega arith in rw place (set_from row j 1 (suc j) x high (omega arith))

    unlabelled_free : (x : Item) (i : ℕ) → is_label x.standing ≡ false → charged k weights v x i ≡ k.zero
    unlabelled_free x i = by_standing x.standing
      where
        by_standing : (y : Standing) → is_label y ≡ false → charge k (weight_of k weights x.ordinal) y (v i) ≡ k.zero
        by_standing Plain other = refl
        by_standing Label other = absurd (both_ways true other refl)
        by_standing Fixed other = refl
        by_standing Covered other = refl
        by_standing Forced other = absurd (both_ways true other refl)

    pub row_set_unlabelled : (row : List Item) (m : ℕ) (x : Item) → 1 ≤ m → m ≤ length row → label_at row m ≡ false → row_cost k weights v 1 (set row (m - 1) x) ≡ k.sum (charged k weights v x m) (row_cost k weights v 1 row)
    row_set_unlabelled row m x low high other = sym (zero_sum laws _) ∙ rw (unlabelled_free (item_at row m) m other) at (row_set row m x low high)
