-- What answers of a sheet and plans of the accepted clauses have to do with each other. Assumes nothing.
use Rattle.std.specs.Prelude.{◌≡◌, ◌⊎◌, List}
use Rattle.weight.specs.Kind.{Kind}
use Rattle.sheet.specs.Sheets.{Sheet}
use Rattle.meaning.specs.Answers.{Values, Answer, cost, paid_cost, AtMost}
use Rattle.meaning.specs.Unwinding.{plan_of}
use Rattle.meaning.specs.Accepted.{Accepted, Plan, plan_cost}
use Rattle.meaning.specs.Calls.{Stage, Reached}

module _ {V : Type 0} (k : Kind V) (acc : List (Accepted V)) (s : Sheet V) where
  -- Every answer unwinds to a plan that keeps the accepted hard clauses and costs no more.
  abbrev pub AnswersUnwind : Type 0
  AnswersUnwind = (v : Values) → Answer s v → Plan acc (plan_of s v) × AtMost k (plan_cost k acc (plan_of s v)) (cost k s v)

  -- For every plan that keeps them the sheet has an answer that costs no more.
  abbrev pub PlansAnswered : Type 0
  PlansAnswered = (p : Values) → Plan acc p → (v : Values) × Answer s v × AtMost k (cost k s v) (plan_cost k acc p)

  -- An answer and a plan that cost the same, and no answer and no plan costs less.
  pub record SameLeast : Type 0 where
    pub answer : Values
    pub plan : Values
    pub answers : Answer s answer
    pub plans : Plan acc plan
    pub same : cost k s answer ≡ plan_cost k acc plan
    pub least_answer : (v : Values) → Answer s v → AtMost k (cost k s answer) (cost k s v)
    pub least_plan : (p : Values) → Plan acc p → AtMost k (plan_cost k acc plan) (plan_cost k acc p)

  abbrev pub LeastCostsAgree : Type 0
  LeastCostsAgree = (((v : Values) → Answer s v → ⊥) × ((p : Values) → Plan acc p → ⊥)) ⊎ SameLeast

  -- The labels that are paid once an answer is unwound cost no more than the answer.
  abbrev pub UnwoundPaysNoMore : Type 0
  UnwoundPaysNoMore = (v : Values) → Answer s v → AtMost k (paid_cost k s.weights (plan_of s v) 1 s.row) (cost k s v)

  pub record Faithful : Type 0 where
    pub answers_unwind : AnswersUnwind
    pub plans_answered : PlansAnswered
    pub least_costs_agree : LeastCostsAgree
    pub unwound_pays_no_more : UnwoundPaysNoMore

-- Every sheet that calls reach is faithful to the clauses that they accepted.
abbrev pub CallsStayFaithful : {V : Type 0} → Kind V → Type 0
CallsStayFaithful {V} k = (stage : Stage) (acc : List (Accepted V)) (s : Sheet V) → Reached k stage acc s → Faithful k acc s
