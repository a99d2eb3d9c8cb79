-- A gathering sheet says what the accepted clauses say. Assumes nothing.
use Rattle.std.proofs.Common.{◌≡◌, ℕ, zero, suc, ◌+◌, ◌<◌, ◌≤◌, Bool, true, false, cond, ◌&&◌, List, [], ◌∷◌, ◌++◌, length, replicate, sym, refl, ap, ◌∙◌, ap₂, append_assoc, append-nil, arith}
use mathlib.Core.Bool.{and_assoc, and-true}
use Rattle.std.specs.List.{range_with_len, AllByRecursion}
use Rattle.std.proofs.lemmas.List.FromFn.{length-range_with_len, get_or-range_with_len, map-range_with_len_more}
use Rattle.std.proofs.ByRecursion.{All-get_or, All-push, All-weaker, All-from_get_or}
use Rattle.std.proofs.lemmas.List.{get_or_push, length_push, length-replicate, map-id}
use Rattle.weight.specs.Kind.{Kind, Lawful}
use Rattle.weight.proofs.Orders.{order_refl, zero_sum}
use Rattle.sheet.specs.Literals.{Literal}
use Rattle.sheet.specs.declared.row.Item.{Item}
use Rattle.sheet.specs.Rows.{is_live, absent, live_at}
use Rattle.sheet.specs.declared.clause.Tag.TheVariants.{Hard, Soft}
use Rattle.sheet.specs.Clauses.{Clause, ordinal_of, soft_ordinals}
use Rattle.sheet.specs.Sheets.{Sheet}
use Rattle.meaning.specs.Answers.{Values, meets_all, row_cost, soft_cost, cost}
use Rattle.meaning.specs.Accepted.{Accepted, must, wish, sent_of, sent_item, sent_met, keeps_hard, plan_cost}
use Rattle.meaning.specs.Calls.{plain_item, opened, normal, tautology, stored, Added}
use Rattle.meaning.specs.LeastCosts.{Faithful}
use Rattle.meaning.proofs.Truth.{meets_append}
use Rattle.meaning.proofs.Costs.{plans_append, softs_append, weights_push}
use Rattle.meaning.proofs.Faith.{unstacked_faithful}
use Rattle.meaning.proofs.Sending.{Sent, normal_literals, normal_met, tautology_sent_met}

pub record Gathered {V : Type 0} (k : Kind V) (acc : List (Accepted V)) (s : Sheet V) : Type 0 where
  pub small : s.callers ≤ 2000
  pub plain : s.row ≡ replicate s.callers plain_item
  pub empty : s.stack ≡ []
  pub few : length s.weights ≤ 2000
  -- the softs lie in the order of their ordinals
  pub numbered : soft_ordinals s.clauses ≡ range_with_len 0 (length s.weights)
  pub literals : AllByRecursion (λ c. AllByRecursion (Literal s.callers) c.lits) s.clauses
  pub sent : AllByRecursion (λ a. AllByRecursion (Sent s.callers) (sent_of a)) acc
  pub meets : (v : Values) → meets_all v s.clauses ≡ keeps_hard v acc
  pub costs : (v : Values) → soft_cost k s.weights v s.clauses ≡ plan_cost k acc v

pub open_gathered : {V : Type 0} {k : Kind V} (n : ℕ) → n ≤ 2000 → Gathered k [] (opened n)
open_gathered n small = record {
  small = small;
  plain = refl;
  empty = refl;
  few = omega arith;
  numbered = refl;
  literals = tt;
  sent = tt;
  meets = λ v. refl;
  costs = λ v. refl;
}

-- One clause more.

keeps_append : {V : Type 0} (p : Values) (xs ys : List (Accepted V)) → keeps_hard p (xs ++ ys) ≡ (keeps_hard p xs && keeps_hard p ys)
keeps_append p [] ys = refl
keeps_append p (must zs ∷ xs) ys = ap (λ b. sent_met p zs && b) (keeps_append p xs ys) ∙ sym (and_assoc (sent_met p zs) (keeps_hard p xs) (keeps_hard p ys))
keeps_append p (wish zs w ∷ xs) ys = keeps_append p xs ys

ordinals_push : (cs : List Clause) (c : Clause) → soft_ordinals (cs ++ (c ∷ [])) ≡ soft_ordinals cs ++ ordinal_of c.tag
ordinals_push [] c = append-nil (ordinal_of c.tag)
ordinals_push (d ∷ cs) c = ap (λ ns. ordinal_of d.tag ++ ns) (ordinals_push cs c) ∙ sym (append_assoc (ordinal_of d.tag) (soft_ordinals cs) (ordinal_of c.tag))

counting_push : (n : ℕ) → range_with_len 0 (n + 1) ≡ range_with_len 0 n ++ (n ∷ [])
counting_push n = sym (map-id (range_with_len 0 (n + 1))) ∙ map-range_with_len_more (λ m. m) 0 n n (omega arith) ∙ ap (λ ns. ns ++ (n ∷ [])) (map-id (range_with_len 0 n))

counting_below : (n : ℕ) → AllByRecursion (λ m. m < n) (range_with_len 0 n)
counting_below n = All-from_get_or _ (range_with_len 0 n) 0 (λ i inside. omega (arith, length-range_with_len 0 n, get_or-range_with_len 0 n i 0))

module _ {V : Type 0} {k : Kind V} (laws : Lawful k) where
  -- what every plan meets costs none anything
  always_met : (a : Accepted V) (v : Values) → sent_met v (sent_of a) ≡ true → (keeps_hard v (a ∷ []) ≡ true) × (plan_cost k (a ∷ []) v ≡ k.zero)
  always_met (must zs) v is = (ap (λ b. b && true) is, refl)
  always_met (wish zs w) v is = (refl, ap (λ b. k.sum (cond b k.zero w) k.zero) is ∙ laws.sum_zero k.zero)

  module _ (acc : List (Accepted V)) (s : Sheet V) (g : Gathered k acc s) where
    low : s.callers < 32768
    low = omega (arith, g.small)

    tautology_gathered : (a : Accepted V) → AllByRecursion (Sent s.callers) (sent_of a) → tautology (normal (sent_of a)) ≡ true → Gathered k (acc ++ (a ∷ [])) s
    tautology_gathered a sent both =
        let always = λ (v : Values). always_met a v (tautology_sent_met s.callers low v (sent_of a) sent both) in
        record {
          small = g.small;
          plain = g.plain;
          empty = g.empty;
          few = g.few;
          numbered = g.numbered;
          literals = g.literals;
          sent = All-push _ acc a g.sent sent;
          meets = λ v. g.meets v ∙ sym (keeps_append v acc (a ∷ []) ∙ ap (λ b. keeps_hard v acc && b) (always v).0 ∙ and-true (keeps_hard v acc));
          costs = λ v. g.costs v ∙ sym (plans_append laws v acc (a ∷ []) ∙ ap (k.sum (plan_cost k acc v)) (always v).1 ∙ laws.sum_zero (plan_cost k acc v));
        }

    stored_gathered : (a : Accepted V) → AllByRecursion (Sent s.callers) (sent_of a) → length (stored s a).weights ≤ 2000 → Gathered k (acc ++ (a ∷ [])) (stored s a)
    stored_gathered (must zs) sent few =
        let c : Clause = record { tag = Hard; lits = normal zs } in
        record {
          small = g.small;
          plain = g.plain;
          empty = g.empty;
          few = few;
          numbered = ordinals_push s.clauses c ∙ append-nil (soft_ordinals s.clauses) ∙ g.numbered;
          literals = All-push _ s.clauses c g.literals (normal_literals s.callers low zs sent);
          sent = All-push _ acc (must zs) g.sent sent;
          meets = λ v. meets_append v s.clauses (c ∷ []) ∙ ap₂ (λ (x y : Bool). x && (y && true)) (g.meets v) (normal_met s.callers low v zs sent) ∙ sym (keeps_append v acc (must zs ∷ []));
          costs = λ v. softs_append laws s.weights v s.clauses (c ∷ []) ∙ ap₂ k.sum (g.costs v) (laws.sum_zero k.zero) ∙ sym (plans_append laws v acc (must zs ∷ []));
        }
    stored_gathered (wish zs w) sent few =
        let n : ℕ = length s.weights in
        let c : Clause = record { tag = Soft n; lits = normal zs } in
        let more : length (s.weights ++ (w ∷ [])) ≡ n + 1 = length_push s.weights w in
        let before : (v : Values) → soft_cost k (s.weights ++ (w ∷ [])) v s.clauses ≡ plan_cost k acc v = λ v. weights_push laws s.weights w v s.clauses (rw g.numbered (counting_below n)) ∙ g.costs v in
        record {
          small = g.small;
          plain = g.plain;
          empty = g.empty;
          few = few;
          numbered = ordinals_push s.clauses c ∙ rw (g.numbered, more) (sym (counting_push n));
          literals = All-push _ s.clauses c g.literals (normal_literals s.callers low zs sent);
          sent = All-push _ acc (wish zs w) g.sent sent;
          meets = λ v. meets_append v s.clauses (c ∷ []) ∙ ap (λ b. b && true) (g.meets v) ∙ sym (keeps_append v acc (wish zs w ∷ []));
          costs = λ v.
              softs_append laws (s.weights ++ (w ∷ [])) v s.clauses (c ∷ [])
              ∙ ap₂ k.sum (before v) (ap₂ (λ (b : Bool) (x : V). k.sum (cond b k.zero x) k.zero) (normal_met s.callers low v zs sent) (get_or_push s.weights w k.zero n refl))
              ∙ sym (plans_append laws v acc (wish zs w ∷ []));
        }

    pub add_gathered : (t : Sheet V) (a : Accepted V) → Added k a s t → Gathered k (acc ++ (a ∷ [])) t
    add_gathered t a added = rw added.after (by_case (tautology (normal (sent_of a))) refl (rw added.after at added.softs))
      where
        by_case : (b : Bool) → tautology (normal (sent_of a)) ≡ b → length (cond b s (stored s a)).weights ≤ 2000 → Gathered k (acc ++ (a ∷ [])) (cond b s (stored s a))
        by_case true both few = tautology_gathered a added.ranged both
        by_case false apart few = stored_gathered a added.ranged few

-- The row.

-- every item is
abbrev pub Live : List Item → Type 0
Live = AllByRecursion (λ x. is_live x.standing ≡ true)

pub live_at_lem : (row : List Item) → Live row → (i : ℕ) → 1 ≤ i → i ≤ length row → live_at row i ≡ true
live_at_lem row live zero low high = absurd (omega arith)
live_at_lem row live (suc i) low high = All-get_or _ row i absent high live

pub sent_live : {V : Type 0} (n : ℕ) (row : List Item) → Live row → n ≤ length row → (acc : List (Accepted V)) → AllByRecursion (λ a. AllByRecursion (Sent n) (sent_of a)) acc → AllByRecursion (λ a. AllByRecursion (λ z. live_at row (sent_item z) ≡ true) (sent_of a)) acc
sent_live n row live wide acc sent = All-weaker _ _ (λ a. All-weaker _ _ (λ z is. live_at_lem row live (sent_item z) is.0 (omega arith)) (sent_of a)) acc sent

plain_live : (n : ℕ) → Live (replicate n plain_item)
plain_live zero = tt
plain_live (suc n) = (refl, plain_live n)

module _ {V : Type 0} {k : Kind V} (acc : List (Accepted V)) (s : Sheet V) (g : Gathered k acc s) where
  pub row_live : Live s.row
  row_live = rw g.plain (plain_live s.callers)

  pub row_length : length s.row ≡ s.callers
  row_length = ap length g.plain ∙ length-replicate s.callers plain_item

module _ {V : Type 0} {k : Kind V} (laws : Lawful k) where
  plain_free : (weights : List V) (v : Values) (i n : ℕ) → row_cost k weights v i (replicate n plain_item) ≡ k.zero
  plain_free weights v i zero = refl
  plain_free weights v i (suc n) = ap (k.sum k.zero) (plain_free weights v (suc i) n) ∙ laws.sum_zero k.zero

  module _ (acc : List (Accepted V)) (s : Sheet V) (g : Gathered k acc s) where
    pub gathered_cost : (v : Values) → cost k s v ≡ plan_cost k acc v
    gathered_cost v = ap₂ k.sum (ap (row_cost k s.weights v 1) g.plain ∙ plain_free s.weights v 1 s.callers) (g.costs v) ∙ zero_sum laws (plan_cost k acc v)

    pub gathered_faithful : Faithful k acc s
    gathered_faithful =
        unstacked_faithful laws acc s g.empty (sent_live s.callers s.row (row_live acc s g) (omega (arith, row_length acc s g)) acc g.sent)
        (λ v answer. (sym (g.meets v) ∙ answer, rw (gathered_cost v) (order_refl laws (plan_cost k acc v))))
        (λ p plan. (p, g.meets p ∙ plan, rw (gathered_cost p) (order_refl laws (plan_cost k acc p))))
