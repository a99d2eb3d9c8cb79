-- What the labels cost that are paid. Assumes nothing.
use Rattle.std.proofs.Common.{◌≡◌, ℕ, suc, ◌+◌, Bool, cond, ◌&&◌, List, [], ◌∷◌, length, get_or, refl, ap₂, arith}
use Rattle.weight.specs.Kind.{Kind, Lawful}
use Rattle.weight.proofs.Orders.{order_refl}
use Rattle.sheet.specs.declared.row.Item.{Item}
use Rattle.sheet.specs.declared.row.Standing.{Standing}
use Rattle.sheet.specs.declared.row.Standing.TheVariants.{Plain, Label, Fixed, Covered, Forced}
use Rattle.sheet.specs.Rows.{is_live, is_label, absent}
use Rattle.sheet.specs.Sheets.{Sheet}
use Rattle.meaning.specs.Answers.{Values, weight_of, charge, row_cost, soft_cost, cost, paid_cost, AtMost}
use Rattle.meaning.specs.Unwinding.{reset, plan_of}
use Rattle.meaning.proofs.Costs.{sum_both}

module _ {V : Type 0} (k : Kind V) (weights : List V) where
  -- what an item costs as a label that is paid, or not
  abbrev pub paid : Item → Bool → V
  paid x yes' = cond (is_label x.standing && yes') (weight_of k weights x.ordinal) k.zero

  pub paid_alike : (v : Values) (i : ℕ) (xs ys : List Item) → length xs ≡ length ys → ((j : ℕ) (b : Bool) → paid (get_or xs j absent) b ≡ paid (get_or ys j absent) b) → paid_cost k weights v i xs ≡ paid_cost k weights v i ys
  paid_alike v i [] [] long same = refl
  paid_alike v i [] (y ∷ ys) long same = absurd (omega arith)
  paid_alike v i (x ∷ xs) [] long same = absurd (omega arith)
  paid_alike v i (x ∷ xs) (y ∷ ys) long same = ap₂ k.sum (same 0 (v i)) (paid_alike v (suc i) xs ys (omega arith) (λ j. same (suc j)))

module _ {V : Type 0} {k : Kind V} (laws : Lawful k) where
  -- a label that is paid only where it is live
  paid_charge : (w : V) (x : Standing) (b : Bool) → AtMost k (cond (is_label x && (is_live x && b)) w k.zero) (charge k w x b)
  paid_charge w Plain b = order_refl laws k.zero
  paid_charge w Label b = order_refl laws (cond b w k.zero)
  paid_charge w Fixed b = order_refl laws k.zero
  paid_charge w Covered b = order_refl laws k.zero
  paid_charge w Forced b = laws.zero_least w

  paid_from : (weights : List V) (u v : Values) (i : ℕ) (row : List Item) → ((j m : ℕ) → m ≡ i + j → u m ≡ (is_live (get_or row j absent).standing && v m)) → AtMost k (paid_cost k weights u i row) (row_cost k weights v i row)
  paid_from weights u v i [] live = order_refl laws k.zero
  paid_from weights u v i (x ∷ xs) live =
      sum_both laws
      (rw (live 0 i (omega arith)) (paid_charge (weight_of k weights x.ordinal) x.standing (v i)))
      (paid_from weights u v (suc i) xs (λ j m at. live (suc j) m (omega arith)))

  -- The labels that are yes among the live ones cost no more than the answer.
  pub reset_pays : (s : Sheet V) (v : Values) → AtMost k (paid_cost k s.weights (reset s.row v) 1 s.row) (cost k s v)
  reset_pays s v =
      let paid-row = paid_from s.weights (reset s.row v) v 1 s.row (λ j m at. let next : m ≡ suc j = omega arith in rw next) in
      rw (laws.sum_zero (paid_cost k s.weights (reset s.row v) 1 s.row)) at (sum_both laws paid-row (laws.zero_least (soft_cost k s.weights v s.clauses)))

  pub unstacked_pays : (s : Sheet V) → s.stack ≡ [] → (v : Values) → AtMost k (paid_cost k s.weights (plan_of s v) 1 s.row) (cost k s v)
  unstacked_pays s empty v = rw empty (reset_pays s v)
