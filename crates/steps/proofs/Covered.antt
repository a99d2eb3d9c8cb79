-- Subsumed label elimination keeps the meaning: what the label that goes would pay for, the label that covers it can pay for. Assumes nothing.
use Rattle.std.proofs.Common.{◌≡◌, ℕ, ◌<◌, true, false, not, eqb, List, [], length, is_some, Some, None, Option, sym, refl, ap, ◌∙◌, subst, inl, inr, arith}
use Rattle.std.proofs.lemmas.List.{append-nil}
use Rattle.std.proofs.lemmas.Bool.{both_ways, cases_Bool, and_parts, or_cases, not-true, eqb-false, leb-false}
use Rattle.weight.specs.Kind.{Kind, Lawful}
use Rattle.sheet.specs.declared.row.Item.{Item}
use Rattle.sheet.specs.declared.row.Standing.{Standing}
use Rattle.sheet.specs.declared.row.Standing.TheVariants.{Plain, Label, Fixed, Covered, Forced}
use Rattle.sheet.specs.Literals.{item_of, has}
use Rattle.sheet.specs.Rows.{item_at, live_at}
use Rattle.sheet.specs.Clauses.{Clause}
use Rattle.sheet.specs.Sheets.{Sheet}
use Rattle.meaning.specs.Answers.{Values, Answer, is_true, met, charge, row_cost, cost, AtMost}
use Rattle.meaning.specs.Unwinding.{made_true, reset}
use Rattle.meaning.specs.Running.{Holds, Meaning}
use Rattle.meaning.proofs.Truth.{affirmed_true}
use Rattle.meaning.proofs.Mending.{made_other}
use Rattle.meaning.proofs.Costs.{charged, sum_both}
use Rattle.steps.specs.Places.{every, lowest_item, nameable}
use Rattle.steps.specs.Rewriting.{is_payable, payable_at, is_other, but, lacking, retired}
use Rattle.steps.specs.Keeping.{Agrees, KeepsMeaning}
use Rattle.steps.specs.Covering.{label_weight, stands, covers, is_covered, covered_out, covering}
use Rattle.steps.proofs.Members.{In, every_in, in_map, in_map_from, has_in, lacks_in, in_but, in_but_from}
use Rattle.steps.proofs.Placing.{mapped_from, item_place}
use Rattle.steps.proofs.Opposites.{opposite_item, opposite_differs, true_alike, made_true_lem, made_keeps}
use Rattle.steps.proofs.Meeting.{met_from, met_carried, each_met, meets_all_lem}
use Rattle.steps.proofs.Aging.{payable_live, payable_label, payable_apart, retired_other, aged_retired, reset_other, reset_here}
use Rattle.steps.proofs.Holding.{ClauseHolds, clause_holds, word_in, live_in, kept_holds, retired_holds, Grown, grown_holds}
use Rattle.steps.proofs.Retiring.{label_affirmed, retired_cheaper, retired_dearer, row_cost_lem, working_cost, grown_keeps}

-- Labels that can be paid.

paid_charge : {V : Type 0} (k : Kind V) (w : V) (x : Standing) → is_payable x ≡ true → charge k w x true ≡ w
paid_charge k w Plain payable = absurd (both_ways false refl payable)
paid_charge k w Label payable = refl
paid_charge k w Fixed payable = absurd (both_ways false refl payable)
paid_charge k w Covered payable = absurd (both_ways false refl payable)
paid_charge k w Forced payable = refl

unpaid_charge : {V : Type 0} (k : Kind V) (w : V) (x : Standing) → is_payable x ≡ true → charge k w x false ≡ k.zero
unpaid_charge k w Plain payable = refl
unpaid_charge k w Label payable = refl
unpaid_charge k w Fixed payable = refl
unpaid_charge k w Covered payable = refl
unpaid_charge k w Forced payable = absurd (both_ways false refl payable)

-- the only word that names it
label_word : {row : List Item} {c : Clause} → ClauseHolds row c → (i : ℕ) → payable_at row i ≡ true → (w : ℕ) → In w c.lits → item_of w ≡ i → w ≡ i
label_word {row} holds i payable w among same =
    let low = leb-false 32768 w (label_affirmed holds w among (rw same (payable_label (item_at row i).standing payable))) in
    omega arith

module _ {V : Type 0} {k : Kind V} (laws : Lawful k) {s : Sheet V} (holds : Holds k s) (l : ℕ) (goes : payable_at s.row l ≡ true) where
  live : live_at s.row l ≡ true
  live = payable_live (item_at s.row l).standing goes

  abbrev later : List Item
  later = retired s.row l Covered

  abbrev after : Sheet V
  after = covered_out k s l

  -- what is left of a clause names other items
  left_apart : (d : Clause) → In d s.clauses → (w : ℕ) → In w (but l d.lits) → item_of w ≡ l → ⊥
  left_apart d within w left same = let was = in_but w l d.lits left in was.1 (label_word (clause_holds holds d within) l goes w was.0 same)

  grown : Grown s after []
  grown = record {
    callers = refl;
    weights = refl;
    aged = aged_retired s.row l Covered live (sym (payable_label _ goes));
    clauses = λ d within.
        let from = in_map (lacking l) d s.clauses within in
        subst (ClauseHolds later) from.2
        (retired_holds s.row l Covered (lacking l from.0) live (sym (payable_label _ goes)) (left_apart from.0 from.1) (kept_holds s.row (is_other l) from.0 (clause_holds holds from.0 from.1)));
    stack = sym (append-nil s.stack);
    valid = λ r never. absurd never;
    named = λ r never. absurd never;
  }

  later_cost : (v : Values) → cost k after v ≡ row_cost k s.weights v 1 later
  later_cost v = working_cost laws (grown_holds holds grown) v

  -- An answer without the label is one with the label unpaid.

  unpaid_back : (v : Values) → Answer after v → Answer s (reset later v)
  unpaid_back v answer = meets_all_lem (reset later v) s.clauses (λ d within.
      met_carried v (reset later v) (but l d.lits) d.lits (each_met v after.clauses (grown_holds holds grown).kinds answer (lacking l d) (in_map_from (lacking l) d s.clauses within))
      (λ w left is.
      let was = in_but w l d.lits left in
      (was.0, true_alike (reset later v) v w (reset_other s.row l Covered live v (item_of w) (left_apart d within w left) (live_in (clause_holds holds d within) w was.0)) ∙ is)))

  cost_back : (v : Values) → AtMost k (cost k s (reset later v)) (cost k after v)
  cost_back v =
      rw (working_cost laws holds (reset later v), later_cost v)
      (retired_dearer laws s.weights s.row l live Covered (reset later v) v (reset_other s.row l Covered live v)
      (rw (reset_here s.row l Covered live v refl, unpaid_charge k (label_weight k s l) (item_at s.row l).standing goes) (laws.zero_least _)))

  -- An answer that does not pay the label stays one.

  module _ (low : l < 32768) where
    unpaid_forth : (v : Values) → v l ≡ false → Answer s v → Answer after v
    unpaid_forth v unpaid answer = meets_all_lem v after.clauses (λ d within.
        let from = in_map (lacking l) d s.clauses within in
        subst (λ x. met v x.lits ≡ true) from.2
        (met_carried v v from.0.lits (but l from.0.lits) (each_met v s.clauses holds.kinds answer from.0 from.1)
        (λ w there is. (in_but_from w l from.0.lits there (λ same. both_ways (is_true v w) (rw same (affirmed_true v l low ∙ unpaid)) is), is))))

    unpaid_cost : (v : Values) → AtMost k (cost k after v) (cost k s v)
    unpaid_cost v = rw (working_cost laws holds v, later_cost v) (retired_cheaper laws s.weights s.row l live Covered v v (λ j other still. refl) (laws.zero_least _))

    -- One that pays it can pay the label that covers it.

    module _ (m : ℕ) (low' : m < 32768) (stays : payable_at s.row m ≡ true) (other : m ≡ l → ⊥) (no_dearer : AtMost k (label_weight k s m) (label_weight k s l)) (everywhere : every (stands l m) s.clauses ≡ true) where
      item : item_of m ≡ m
      item = omega arith

      -- pays m besides
      abbrev paying : Values → Values
      paying v = made_true v m

      pays_it : (v : Values) → paying v m ≡ true
      pays_it v = sym (affirmed_true (paying v) m low') ∙ made_true_lem v m

      pays_else : (v : Values) (j : ℕ) → (j ≡ m → ⊥) → paying v j ≡ v j
      pays_else v j apart = made_other v m j (λ same. apart (same ∙ item))

      paid_forth : (v : Values) → Answer s v → Answer after (paying v)
      paid_forth v answer = meets_all_lem (paying v) after.clauses (λ d within.
          let from = in_map (lacking l) d s.clauses within in
          let e : Clause = from.0 in
          let e-holds = clause_holds holds e from.1 in
          subst (λ x. met (paying v) x.lits ≡ true) from.2
          (elim (or_cases (not (has l e.lits)) (has m e.lits) (every_in (stands l m) e s.clauses everywhere from.1)) [
            | inl without ↦
                met_carried v (paying v) e.lits (but l e.lits) (each_met v s.clauses holds.kinds answer e from.1)
                (λ w there is. (
                  in_but_from w l e.lits there (λ same. lacks_in l e.lits (not-true (has l e.lits) without) (rw same at there)),
                  made_keeps v m w (omega arith) (word_in e-holds w there)
                      (λ denial. opposite_differs m (omega arith) (sym denial ∙ label_word e-holds m stays w there (ap item_of denial ∙ opposite_item m (omega arith) ∙ item)))
                      is,
                ))
            | inr with_it ↦ met_from (paying v) m (but l e.lits) (in_but_from m l e.lits (has_in m e.lits with_it) other) (made_true_lem v m)
          ]))

      same_item : item_at later m ≡ item_at s.row m
      same_item = retired_other s.row l Covered live m other

      still_payable : payable_at later m ≡ true
      still_payable = rw same_item stays

      still : live_at later m ≡ true
      still = payable_live (item_at later m).standing still_payable

      paid_costs : (v : Values) → v l ≡ true → AtMost k (cost k after (paying v)) (cost k s v)
      paid_costs v paid =
          let for_m : charged k s.weights (paying v) (item_at later m) m ≡ label_weight k s m = rw (same_item, pays_it v) (paid_charge k (label_weight k s m) (item_at s.row m).standing stays) in
          let for_l : charged k s.weights v (item_at s.row l) l ≡ label_weight k s l = rw paid (paid_charge k (label_weight k s l) (item_at s.row l).standing goes) in
          rw (working_cost laws holds v, later_cost (paying v), row_cost_lem laws s.weights later m still (paying v), row_cost_lem laws s.weights s.row l live v, for_m, for_l)
          (sum_both laws no_dearer (retired_cheaper laws s.weights later m still Covered (paying v) v (λ j apart live. pays_else v j apart) (laws.zero_least _)))

      agrees : Agrees k s after
      agrees v answer = elim (cases_Bool (v l)) [
        | inl paid ↦ (paying v, paid_forth v answer, paid_costs v paid, λ i plain. pays_else v i (λ same. payable_apart later m i still_payable plain (sym same)))
        | inr unpaid ↦ (v, unpaid_forth v unpaid answer, unpaid_cost v, λ i plain. refl)
      ]

      pub cover_keeps : Meaning k s after × Agrees k s after
      cover_keeps = grown_keeps holds grown (λ r never. absurd never) (λ v answer. (unpaid_back v answer, cost_back v)) agrees

some_found : {X : Type 0} (o : Option X) → is_some o ≡ true → (x : X) × (o ≡ Some x)
some_found None found = absurd (both_ways false refl found)
some_found (Some x) found = (x, refl)

pub covering_keeps : {V : Type 0} {k : Kind V} → Lawful k → KeepsMeaning k (covering k) (λ t. true)
unfolding covering
covering_keeps {k = k} laws s t found fits holds =
    let n : ℕ = nameable (length s.row) in
    let made = mapped_from (covered_out k s) (lowest_item (is_covered k s) 1 n) t found in
    let l : ℕ = made.0 in
    let place = item_place (is_covered k s) 1 n l made.1 in
    let covered = and_parts (payable_at s.row l) (is_some (lowest_item (covers k s l) 1 n)) place.2 in
    let by = some_found (lowest_item (covers k s l) 1 n) covered.1 in
    let m : ℕ = by.0 in
    let place' = item_place (covers k s l) 1 n m by.1 in
    let payable = and_parts (payable_at s.row m) _ place'.2 in
    let apart = and_parts (not (eqb m l)) _ payable.1 in
    let cheap = and_parts (k.at_most (label_weight k s m) (label_weight k s l)) (every (stands l m) s.clauses) apart.1 in
    subst (λ x. Meaning k s x × Agrees k s x) made.2
    (cover_keeps laws holds l covered.0 (omega arith) m (omega arith) payable.0 (eqb-false m l (not-true (eqb m l) apart.0)) cheap.0 cheap.1)
