-- What makes a sheet faithful. Assumes nothing.
use Rattle.std.proofs.Common.{◌≡◌, suc, ◌+◌, true, List, [], length, get_or, ◌∙◌, ap₂, inl, inr, arith}
use Rattle.std.specs.List.{AllByRecursion}
use Rattle.std.proofs.ByRecursion.{All-weaker, all_from_every}
use Rattle.weight.specs.Kind.{Kind, Lawful}
use Rattle.sheet.specs.Literals.{item_of}
use Rattle.sheet.specs.Rows.{live_at}
use Rattle.sheet.specs.Sheets.{Sheet}
use Rattle.meaning.specs.Answers.{Values, meets_all, Answer, cost, AtMost}
use Rattle.meaning.specs.Unwinding.{reset, plan_of}
use Rattle.meaning.specs.Accepted.{Accepted, sent_of, sent_item, Plan, plan_cost, keeps_hard}
use Rattle.meaning.specs.LeastCosts.{AnswersUnwind, PlansAnswered, LeastCostsAgree, UnwoundPaysNoMore, Faithful}
use Rattle.meaning.proofs.Agreement.{meets_alike, softs_alike, plans_alike, reset_live, row_below}
use Rattle.meaning.proofs.Cheapest.{Cheapest, cheapest}
use Rattle.meaning.proofs.Paying.{unstacked_pays}

everywhere : {X : Type 0} (P : X → Type 0) → ((x : X) → P x) → (xs : List X) → AllByRecursion P xs
everywhere P holds xs = all_from_every P xs (λ k d low high. holds (get_or xs k d))

module _ {V : Type 0} {k : Kind V} (laws : Lawful k) where
  -- of a sheet only the items of its row and those that a word can name count
  pub cheapest_answer : (s : Sheet V) → Cheapest k (λ v. meets_all v s.clauses) (cost k s)
  cheapest_answer s = cheapest laws (32768 + suc (length s.row)) _ _ (λ u v same.
      let named = everywhere _ (λ c. everywhere _ (λ w. same (item_of w) (omega arith)) c.lits) s.clauses in (
        meets_alike u v s.clauses named,
        ap₂ k.sum (row_below k s.weights u v s.row (λ i low. same i (omega arith))) (softs_alike k s.weights u v s.clauses named),
      ))

  module _ (acc : List (Accepted V)) (s : Sheet V) (back : AnswersUnwind k acc s) (forth : PlansAnswered k acc s) where
    least_costs : LeastCostsAgree k acc s
    least_costs = elim (cheapest_answer s) [
      | inl none ↦ inl (none, λ p plan. let f = forth p plan in none f.0 f.1)
      | inr best ↦
          let v : Values = best.0 in
          let below : (p : Values) → Plan acc p → AtMost k (cost k s v) (plan_cost k acc p) = λ p plan. let f = forth p plan in laws.trans _ _ _ (best.2 f.0 f.1) f.2 in
          let b = back v best.1 in
          let same : cost k s v ≡ plan_cost k acc (plan_of s v) = laws.antisym _ _ (below (plan_of s v) b.0) b.1 in
          inr (record {
            answer = v;
            plan = plan_of s v;
            answers = best.1;
            plans = b.0;
            same = same;
            least_answer = best.2;
            least_plan = λ p plan. rw same at (below p plan);
          })
    ]

    pub faithful : UnwoundPaysNoMore k acc s → Faithful k acc s
    faithful pays = record { answers_unwind = back; plans_answered = forth; least_costs_agree = least_costs; unwound_pays_no_more = pays }

  -- Where nothing is stacked and every item sent is live, an answer is its own plan.
  module _ (acc : List (Accepted V)) (s : Sheet V) (empty : s.stack ≡ []) (live : AllByRecursion (λ a. AllByRecursion (λ z. live_at s.row (sent_item z) ≡ true) (sent_of a)) acc) where
    own_plan : (v : Values) → (keeps_hard (plan_of s v) acc ≡ keeps_hard v acc) × (plan_cost k acc (plan_of s v) ≡ plan_cost k acc v)
    own_plan v = rw empty (plans_alike k (reset s.row v) v acc (All-weaker _ _ (λ a. All-weaker _ _ (λ z. reset_live s.row v (sent_item z)) (sent_of a)) acc live))

    pub unstacked_faithful : ((v : Values) → Answer s v → Plan acc v × AtMost k (plan_cost k acc v) (cost k s v)) → PlansAnswered k acc s → Faithful k acc s
    unstacked_faithful back forth = faithful acc s (λ v answer. let own = own_plan v in let b = back v answer in (own.0 ∙ b.0, rw own.1 b.1)) forth (λ v answer. unstacked_pays laws s empty v)
