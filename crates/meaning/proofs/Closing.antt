-- A closed sheet is faithful: its labels cost what its softs cost. Assumes nothing.
use Rattle.std.proofs.Common.{◌≡◌, ℕ, zero, suc, ◌+◌, ◌-◌, ◌<◌, ◌≤◌, Bool, true, false, cond, not, ◌&&◌, ◌||◌, List, [], ◌∷◌, ◌++◌, length, set, replicate, sym, refl, ap, ◌∙◌, ap₂, zero-add, arith}
use mathlib.Core.Bool.{and-true, or-not_self, not-or_self, not-not}
use Rattle.std.specs.List.{AllByRecursion, range_with_len}
use Rattle.std.proofs.lemmas.List.FromFn.{length-range_with_len, get_or-range_with_len}
use Rattle.std.proofs.ByRecursion.{All-get_or, All-weaker}
use Rattle.std.proofs.lemmas.List.{length-set, length_push, get_or-replicate}
use Rattle.std.proofs.lemmas.Bool.{both_ways, and_parts, and_from}
use Rattle.weight.specs.Kind.{Kind, Lawful}
use Rattle.weight.proofs.Orders.{order_refl}
use Rattle.sheet.specs.Literals.{Literal}
use Rattle.sheet.specs.declared.row.Item.{Item}
use Rattle.sheet.specs.Rows.{is_label, absent, label_at}
use Rattle.sheet.specs.declared.clause.Tag.{Tag}
use Rattle.sheet.specs.declared.clause.Tag.TheVariants.{Hard, Soft, Working}
use Rattle.sheet.specs.Clauses.{Clause}
use Rattle.sheet.specs.Sheets.{Sheet}
use Rattle.meaning.specs.Answers.{Values, met, kept_as, meets_all, weight_of, row_cost, owed, soft_cost, cost, AtMost}
use Rattle.meaning.specs.Accepted.{Accepted, plan_cost}
use Rattle.meaning.specs.Calls.{plain_item, label_item, insert, lends_item, only_item, labelled_row, working_clause, closed_row, closed_clauses, closed}
use Rattle.meaning.specs.LeastCosts.{Faithful}
use Rattle.meaning.proofs.Inserting.{met_insert, all_insert}
use Rattle.meaning.proofs.Truth.{affirmed_true, meets_append}
use Rattle.meaning.proofs.Agreement.{Below, alike_below, clauses_below, met_alike, meets_alike, softs_alike, row_below}
use Rattle.meaning.proofs.Cheapest.{put, put_here, put_other}
use Rattle.meaning.proofs.Costs.{working_free, row_push, row_set_unlabelled}
use Rattle.meaning.proofs.Faith.{unstacked_faithful}
use Rattle.meaning.proofs.Gathering.{Gathered, sent_live, row_live, row_length, gathered_cost}
use Rattle.meaning.proofs.Allotting.{closed_labels}
use Rattle.meaning.proofs.Ordinals.{AllLabelled}
use Rattle.meaning.proofs.Labelling.{lends, row_behind, made_of, closed_working, Waiting, unlabelled, waiting_behind, waiting_end}

module _ {V : Type 0} (k : Kind V) (weights : List V) where
  -- what the labels of a row cost
  abbrev labels : List Item → Values → V
  labels row v = row_cost k weights v 1 row

  abbrev owes : Clause → Values → V
  owes c v = owed k weights c.tag (met v c.lits)

  abbrev keeps : Values → Clause → Type 0
  keeps v c = kept_as c.tag (met v c.lits) ≡ true

  -- One clause closes: `behind` is the row with its label, and `made` what becomes of it.
  record Closes (c : Clause) (row behind : List Item) (made : List Clause) : Type 0 where
    longer : length row ≤ length behind
    literals : AllByRecursion (λ d. AllByRecursion (Literal (length behind)) d.lits) made
    back : (v : Values) → meets_all v made ≡ true → keeps v c × AtMost k (k.sum (labels row v) (owes c v)) (labels behind v)
    forth : (v : Values) → keeps v c → (u : Values) × Below (suc (length row)) u v × (meets_all u made ≡ true) × (labels behind u ≡ k.sum (labels row v) (owes c v))

module _ {V : Type 0} {k : Kind V} (laws : Lawful k) (weights : List V) where
  -- a clause that is no soft stays what it is
  keep : (t : Tag) (ws : List ℕ) (row : List Item) → ((b : Bool) → (kept_as t b ≡ b) × (owed k weights t b ≡ k.zero)) → AllByRecursion (Literal (length row)) ws → Closes k weights (record { tag = t; lits = ws }) row row (record { tag = Working; lits = ws } ∷ [])
  keep t ws row hard literals =
      let nothing : (v : Values) → k.sum (labels k weights row v) (owed k weights t (met v ws)) ≡ labels k weights row v = λ v. ap (k.sum _) (hard (met v ws)).1 ∙ laws.sum_zero _ in
      record {
        longer = omega arith;
        literals = (literals, tt);
        back = λ v answer. ((hard (met v ws)).0 ∙ sym (and-true (met v ws)) ∙ answer, rw (nothing v) (order_refl laws _));
        forth = λ v kept. (v, λ i low. refl, and-true (met v ws) ∙ sym (hard (met v ws)).0 ∙ kept, sym (nothing v));
      }

  -- where the label is yes or the soft met, the soft owes at most what the label costs
  owed_paid : (w : V) (label is : Bool) → (label || is) ≡ true → AtMost k (cond is k.zero w) (cond label w k.zero)
  owed_paid w label true either = laws.zero_least _
  owed_paid w true false either = order_refl laws w
  owed_paid w false false either = absurd (both_ways false refl either)

  owed_exactly : (w : V) (label is : Bool) → label ≡ not is → cond label w k.zero ≡ cond is k.zero w
  owed_exactly w label true tells = ap (λ b. cond b w k.zero) tells
  owed_exactly w label false tells = ap (λ b. cond b w k.zero) tells

  -- a soft whose label is item m
  label : (o m : ℕ) (ws : List ℕ) (row behind : List Item) (made : List Clause) → length row ≤ length behind → AllByRecursion (λ d. AllByRecursion (Literal (length behind)) d.lits) made →
      ((v : Values) → labels k weights behind v ≡ k.sum (cond (v m) (weight_of k weights o) k.zero) (labels k weights row v)) →
      ((v : Values) → meets_all v made ≡ true → (v m || met v ws) ≡ true) →
      ((v : Values) → (u : Values) × Below (suc (length row)) u v × (meets_all u made ≡ true) × (u m ≡ not (met v ws))) →
      Closes k weights (record { tag = Soft o; lits = ws }) row behind made
  label o m ws row behind made longer literals costs either telling = record {
    longer = longer;
    literals = literals;
    back = λ v answer. (refl, rw (costs v, laws.sum_comm (labels k weights row v) _) (laws.sum_keeps _ _ _ (owed_paid (weight_of k weights o) (v m) (met v ws) (either v answer))));
    forth = λ v kept. let t = telling v in (
      t.0,
      t.1,
      t.2,
      costs t.0 ∙ ap₂ k.sum (owed_exactly (weight_of k weights o) (t.0 m) (met v ws) t.3) (row_below k weights t.0 v row t.1) ∙ laws.sum_comm _ _,
    );
  }

  module _ (all : List Clause) (n : ℕ) where
    module _ (row : List Item) (o : ℕ) (ws : List ℕ) (cs : List Clause) (r : Waiting all n row (record { tag = Soft o; lits = ws } ∷ cs)) where
      label_own : lends_item all ws ≡ true → Closes k weights (record { tag = Soft o; lits = ws }) row (set row (only_item ws - 1) (label_item o)) []
      label_own is =
          let own = lends all ws is in
          let range = own.ranged n r.literals.0 in
          let same : length (set row (only_item ws - 1) (label_item o)) ≡ length row = length-set row (only_item ws - 1) (label_item o) in
          label o (only_item ws) ws row _ [] (omega arith) tt
          (λ v. row_set_unlabelled laws weights v row (only_item ws) (label_item o) range.0 (omega (arith, r.wide)) (unlabelled all n row o ws cs r own))
          (λ v answer. ap (λ b. v (only_item ws) || b) (own.met_unless v) ∙ or-not_self (v (only_item ws)))
          (λ v. (v, λ i low. refl, refl, sym (ap not (own.met_unless v) ∙ not-not (v (only_item ws)))))

      -- a fresh label can tell whether the soft is broken
      telling : (v : Values) → (u : Values) × Below (suc (length row)) u v × (met u ws ≡ met v ws) × (u (suc (length row)) ≡ not (met v ws))
      telling v =
          let m : ℕ = suc (length row) in
          let u : Values = put v m (not (met v ws)) in
          let same : Below m u v = λ i inside. put_other v m (not (met v ws)) i (omega arith) in
          (u, same, met_alike u v ws (alike_below n u v (λ i low. same i (omega (arith, r.wide))) ws r.literals.0), put_here v m (not (met v ws)))

      label_fresh : Closes k weights (record { tag = Soft o; lits = ws }) row (row ++ (label_item o ∷ [])) (record { tag = Working; lits = insert (suc (length row)) ws } ∷ [])
      label_fresh =
          let m : ℕ = suc (length row) in
          let more : length (row ++ (label_item o ∷ [])) ≡ length row + 1 = length_push row (label_item o) in
          let low : m < 32768 = omega (arith, r.room) in
          let says : (v : Values) → (met v (insert m ws) && true) ≡ (v m || met v ws) = λ v. and-true _ ∙ met_insert v m ws ∙ ap (λ b. b || met v ws) (affirmed_true v m low) in
          label o m ws row _ _ (omega arith)
          (all_insert _ m ws (omega arith) (All-weaker _ _ (λ w is. omega (arith, r.wide)) ws r.literals.0), tt)
          (λ v. row_push laws weights v row (label_item o))
          (λ v answer. sym (says v) ∙ answer)
          (λ v. let told = telling v in (told.0, told.1, says told.0 ∙ ap₂ (λ (x y : Bool). x || y) told.3 told.2 ∙ not-or_self (met v ws), told.3))

      label_soft : (b : Bool) → lends_item all ws ≡ b → Closes k weights (record { tag = Soft o; lits = ws }) row (cond b (set row (only_item ws - 1) (label_item o)) (row ++ (label_item o ∷ []))) (cond b [] (record { tag = Working; lits = insert (suc (length row)) ws } ∷ []))
      label_soft true is = label_own is
      label_soft false is = label_fresh

    close : (row : List Item) (c : Clause) (cs : List Clause) → Waiting all n row (c ∷ cs) → Closes k weights c row (row_behind all row c) (made_of all row c)
    close row c cs = by_tag c.tag c.lits
      where
        wider : (ws : List ℕ) → n ≤ length row → AllByRecursion (Literal n) ws → AllByRecursion (Literal (length row)) ws
        wider ws wide literals = All-weaker _ _ (λ w is. omega arith) ws literals

        by_tag : (t : Tag) (ws : List ℕ) → Waiting all n row (record { tag = t; lits = ws } ∷ cs) → Closes k weights (record { tag = t; lits = ws }) row (labelled_row all t ws row) (working_clause all t ws row)
        by_tag Hard ws r = keep Hard ws row (λ b. (refl, refl)) (wider ws r.wide r.literals.0)
        by_tag (Soft o) ws r = label_soft row o ws cs r (lends_item all ws) refl
        by_tag Working ws r = keep Working ws row (λ b. (refl, refl)) (wider ws r.wide r.literals.0)

    -- All clauses, one after the other.

    close_back : (v : Values) (row : List Item) (cs : List Clause) → Waiting all n row cs → meets_all v (closed_clauses all row cs) ≡ true → (meets_all v cs ≡ true) × AtMost k (k.sum (labels k weights row v) (soft_cost k weights v cs)) (labels k weights (closed_row all row cs) v)
    close_back v row [] r answer = (refl, rw (laws.sum_zero (labels k weights row v)) (order_refl laws _))
    close_back v row (c ∷ cs) r answer =
        let next : List Item = row_behind all row c in
        let parts = and_parts _ _ (sym (meets_append v (made_of all row c) (closed_clauses all next cs)) ∙ answer) in
        let here = (close row c cs r).back v parts.0 in
        let rest = close_back v next cs (waiting_behind all n row c cs r) parts.1 in
        (and_from _ _ here.0 rest.0, rw (← laws.sum_assoc (labels k weights row v) (owes k weights c v) (soft_cost k weights v cs)) (laws.trans _ _ _ (laws.sum_keeps _ _ _ here.1) rest.1))

    close_forth : (v : Values) (row : List Item) (cs : List Clause) → Waiting all n row cs → meets_all v cs ≡ true → (u : Values) × Below (suc (length row)) u v × (meets_all u (closed_clauses all row cs) ≡ true) × (labels k weights (closed_row all row cs) u ≡ k.sum (labels k weights row v) (soft_cost k weights v cs))
    close_forth v row [] r answer = (v, λ i low. refl, refl, sym (laws.sum_zero (labels k weights row v)))
    close_forth v row (c ∷ cs) r answer =
        let next : List Item = row_behind all row c in
        let made : List Clause = made_of all row c in
        let parts = and_parts _ _ answer in
        let one = close row c cs r in
        let here = one.forth v parts.0 in
        let u : Values = here.0 in
        let later = clauses_below n u v (λ i low. here.1 i (omega (arith, r.wide))) cs r.literals.1 in
        let rest = close_forth u next cs (waiting_behind all n row c cs r) (meets_alike u v cs later ∙ parts.1) in
        let x : Values = rest.0 in (
          x,
          λ i low. rest.1 i (omega (arith, one.longer)) ∙ here.1 i low,
          meets_append x made (closed_clauses all next cs) ∙ and_from _ _ (meets_alike x u made (clauses_below (length next) x u rest.1 made one.literals) ∙ here.2) rest.2,
          rest.3 ∙ ap₂ k.sum here.3 (softs_alike k weights u v cs later) ∙ laws.sum_assoc _ _ _,
        )

-- The whole sheet.

plain_unlabelled : (n m : ℕ) → m ≤ n → label_at (replicate n plain_item) m ≡ false
plain_unlabelled n zero inside = refl
plain_unlabelled n (suc i) inside = ap (λ x. is_label x.standing) (get_or-replicate n i plain_item absent inside)

module _ {V : Type 0} {k : Kind V} (laws : Lawful k) (acc : List (Accepted V)) (s : Sheet V) (g : Gathered k acc s) where
  waiting : Waiting s.clauses s.callers s.row s.clauses
  waiting = record {
    wide = omega (arith, row_length acc s g);
    room = omega (arith, row_length acc s g, g.small, g.few, ap length g.numbered ∙ length-range_with_len 0 (length s.weights));
    live = row_live acc s g;
    literals = g.literals;
    named = λ m low. rw (g.plain, plain_unlabelled s.callers m low) (omega arith);
  }

  closed_cost : (v : Values) → cost k (closed s) v ≡ labels k s.weights (closed s).row v
  closed_cost v = ap (k.sum _) (working_free laws s.weights v (closed s).clauses (closed_working s.clauses s.row s.clauses)) ∙ laws.sum_zero _

  pub closed_faithful : Faithful k acc (closed s)
  closed_faithful =
      let end = waiting_end s.clauses s.callers s.row s.clauses waiting in
      unstacked_faithful laws acc (closed s) g.empty (sent_live s.callers (closed s).row end.live end.wide acc g.sent)
      (λ v answer. let back = close_back laws s.weights s.clauses s.callers v s.row s.clauses waiting answer in
      (sym (g.meets v) ∙ back.0, rw (closed_cost v, ← gathered_cost laws acc s g v) back.1))
      (λ p plan. let forth = close_forth laws s.weights s.clauses s.callers p s.row s.clauses waiting (g.meets p ∙ plan) in
      (forth.0, forth.2, rw (closed_cost forth.0, forth.3, gathered_cost laws acc s g p) (order_refl laws (plan_cost k acc p))))

  pub closed_labelled : AllLabelled (closed s)
  closed_labelled o inside =
      let n : ℕ = length s.weights in
      let each = rw g.numbered at (closed_labels s.clauses s.callers s.row s.clauses waiting) in
      rw (get_or-range_with_len 0 n o 0 inside, zero-add o) at (All-get_or _ (range_with_len 0 n) o 0 (rw (length-range_with_len 0 n) inside) each)
