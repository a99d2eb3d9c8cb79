-- The clauses that were accepted, as they were sent, and plans by them. Assumes nothing.
use Rattle.std.specs.Prelude.{◌≡◌, ℕ, suc, Bool, true, false, cond, not, ◌&&◌, ◌||◌, List, [], ◌∷◌, ℤ, pos, negsuc}
use Rattle.weight.specs.Kind.{Kind}
use Rattle.meaning.specs.Answers.{Values}

-- Literals are sent as signed numbers, minus for denial. A wish has its weight's value.
pub data Accepted (V : Type 0) : Type 0 where
  must : List ℤ → Accepted V
  wish : List ℤ → V → Accepted V

abbrev pub sent_of : {V : Type 0} → Accepted V → List ℤ
sent_of (must zs) = zs
sent_of (wish zs w) = zs

abbrev pub sent_item : ℤ → ℕ
sent_item (pos n) = n
sent_item (negsuc n) = suc n

abbrev pub sent_true : Values → ℤ → Bool
sent_true p (pos n) = p n
sent_true p (negsuc n) = not (p (suc n))

abbrev pub sent_met : Values → List ℤ → Bool
sent_met p [] = false
sent_met p (z ∷ zs) = sent_true p z || sent_met p zs

abbrev pub keeps_hard : {V : Type 0} → Values → List (Accepted V) → Bool
keeps_hard p [] = true
keeps_hard p (must zs ∷ rest) = sent_met p zs && keeps_hard p rest
keeps_hard p (wish zs w ∷ rest) = keeps_hard p rest

-- Values of the caller's items that meet every accepted hard clause.
abbrev pub Plan : {V : Type 0} → List (Accepted V) → Values → Type 0
Plan acc p = keeps_hard p acc ≡ true

-- the total of the wishes that a plan breaks
abbrev pub plan_cost : {V : Type 0} → Kind V → List (Accepted V) → Values → V
plan_cost k [] p = k.zero
plan_cost k (must zs ∷ rest) p = plan_cost k rest p
plan_cost k (wish zs w ∷ rest) p = k.sum (cond (sent_met p zs) k.zero w) (plan_cost k rest p)
