-- Values that agree where it counts meet and cost the same. Assumes nothing.
use Rattle.std.proofs.Common.{◌≡◌, ℕ, suc, ◌+◌, ◌<◌, Bool, true, cond, not, ◌&&◌, ◌||◌, List, [], ◌∷◌, length, get_or, ℤ, pos, negsuc, refl, ap, ap₂, arith}
use Rattle.std.specs.List.{AllByRecursion}
use Rattle.std.proofs.ByRecursion.{All-weaker}
use Rattle.weight.specs.Kind.{Kind}
use Rattle.sheet.specs.Literals.{Literal, item_of, denied}
use Rattle.sheet.specs.declared.row.Item.{Item}
use Rattle.sheet.specs.declared.row.Standing.{Standing}
use Rattle.sheet.specs.declared.row.Standing.TheVariants.{Plain, Label, Fixed, Covered, Forced}
use Rattle.sheet.specs.Rows.{is_live, absent, live_at}
use Rattle.sheet.specs.Clauses.{Clause}
use Rattle.meaning.specs.Answers.{Values, met, kept_as, meets_all, weight_of, charge, row_cost, owed, soft_cost}
use Rattle.meaning.specs.Unwinding.{reset}
use Rattle.meaning.specs.Accepted.{Accepted, must, wish, sent_of, sent_item, sent_true, sent_met, keeps_hard, plan_cost}
use Rattle.meaning.proofs.Places.{item_inside}

-- on the items below n
abbrev pub Below : ℕ → Values → Values → Type 0
Below n u v = (i : ℕ) → i < n → u i ≡ v i

-- Clauses, by the items that they name.

abbrev pub Alike : Values → Values → List ℕ → Type 0
Alike u v = AllByRecursion (λ w. u (item_of w) ≡ v (item_of w))

pub met_alike : (u v : Values) (ws : List ℕ) → Alike u v ws → met u ws ≡ met v ws
met_alike u v [] same = refl
met_alike u v (w ∷ ws) same = ap₂ (λ (x y : Bool). cond (denied w) (not x) x || y) same.0 (met_alike u v ws same.1)

pub meets_alike : (u v : Values) (cs : List Clause) → AllByRecursion (λ c. Alike u v c.lits) cs → meets_all u cs ≡ meets_all v cs
meets_alike u v [] same = refl
meets_alike u v (c ∷ cs) same = ap₂ (λ (x y : Bool). kept_as c.tag x && y) (met_alike u v c.lits same.0) (meets_alike u v cs same.1)

-- literals of the items 1 to n
pub alike_below : (n : ℕ) (u v : Values) → Below (suc n) u v → (ws : List ℕ) → AllByRecursion (Literal n) ws → Alike u v ws
alike_below n u v same ws literals = All-weaker _ _ (λ w is. same (item_of w) (omega arith)) ws literals

pub clauses_below : (n : ℕ) (u v : Values) → Below (suc n) u v → (cs : List Clause) → AllByRecursion (λ c. AllByRecursion (Literal n) c.lits) cs → AllByRecursion (λ c. Alike u v c.lits) cs
clauses_below n u v same cs literals = All-weaker _ _ (λ c. alike_below n u v same c.lits) cs literals

abbrev pub SentAlike : Values → Values → List ℤ → Type 0
SentAlike u v = AllByRecursion (λ z. u (sent_item z) ≡ v (sent_item z))

sent_true_alike : (u v : Values) (z : ℤ) → u (sent_item z) ≡ v (sent_item z) → sent_true u z ≡ sent_true v z
sent_true_alike u v (pos n) same = same
sent_true_alike u v (negsuc n) same = ap not same

pub sent_met_alike : (u v : Values) (zs : List ℤ) → SentAlike u v zs → sent_met u zs ≡ sent_met v zs
sent_met_alike u v [] same = refl
sent_met_alike u v (z ∷ zs) same = ap₂ (λ (x y : Bool). x || y) (sent_true_alike u v z same.0) (sent_met_alike u v zs same.1)

module _ {V : Type 0} (k : Kind V) where
  pub softs_alike : (weights : List V) (u v : Values) (cs : List Clause) → AllByRecursion (λ c. Alike u v c.lits) cs → soft_cost k weights u cs ≡ soft_cost k weights v cs
  softs_alike weights u v [] same = refl
  softs_alike weights u v (c ∷ cs) same = ap₂ (λ (x : Bool) (y : V). k.sum (owed k weights c.tag x) y) (met_alike u v c.lits same.0) (softs_alike weights u v cs same.1)

  pub plans_alike : (u v : Values) (acc : List (Accepted V)) → AllByRecursion (λ a. SentAlike u v (sent_of a)) acc → (keeps_hard u acc ≡ keeps_hard v acc) × (plan_cost k acc u ≡ plan_cost k acc v)
  plans_alike u v [] same = (refl, refl)
  plans_alike u v (must zs ∷ rest) same = let later = plans_alike u v rest same.1 in (ap₂ (λ (x y : Bool). x && y) (sent_met_alike u v zs same.0) later.0, later.1)
  plans_alike u v (wish zs w ∷ rest) same = let later = plans_alike u v rest same.1 in (later.0, ap₂ (λ (x : Bool) (y : V). k.sum (cond x k.zero w) y) (sent_met_alike u v zs same.0) later.1)

-- Rows, by their live items.

pub reset_live : (row : List Item) (v : Values) (i : ℕ) → live_at row i ≡ true → reset row v i ≡ v i
reset_live row v i live = ap (λ b. b && v i) live

module _ {V : Type 0} (k : Kind V) where
  charge_alike : (w : V) (x : Standing) (a b : Bool) → (is_live x ≡ true → a ≡ b) → charge k w x a ≡ charge k w x b
  charge_alike w Plain a b same = refl
  charge_alike w Label a b same = ap (λ y. cond y w k.zero) (same refl)
  charge_alike w Fixed a b same = refl
  charge_alike w Covered a b same = refl
  charge_alike w Forced a b same = refl

  row_from_alike : (weights : List V) (u v : Values) (i : ℕ) (row : List Item) → ((j m : ℕ) → m ≡ i + j → is_live (get_or row j absent).standing ≡ true → u m ≡ v m) → row_cost k weights u i row ≡ row_cost k weights v i row
  row_from_alike weights u v i [] same = refl
  row_from_alike weights u v i (x ∷ xs) same =
      ap₂ k.sum
      (charge_alike (weight_of k weights x.ordinal) x.standing (u i) (v i) (same 0 i (omega arith)))
      (row_from_alike weights u v (suc i) xs (λ j m at. same (suc j) m (omega arith)))

  pub row_alike : (weights : List V) (u v : Values) (row : List Item) → ((i : ℕ) → live_at row i ≡ true → u i ≡ v i) → row_cost k weights u 1 row ≡ row_cost k weights v 1 row
  row_alike weights u v row same = row_from_alike weights u v 1 row (λ j m at live. let next : m ≡ suc j = omega arith in rw next (same (suc j) live))

  pub row_below : (weights : List V) (u v : Values) (row : List Item) → Below (suc (length row)) u v → row_cost k weights u 1 row ≡ row_cost k weights v 1 row
  row_below weights u v row same = row_alike weights u v row (λ i live. same i (omega (arith, item_inside is_live refl row i live)))
