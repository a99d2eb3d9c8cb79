-- Unit propagation keeps the meaning: the literal of a unit clause is true in every answer. Assumes nothing.
use Rattle.std.proofs.Common.{◌≡◌, ℕ, ◌<◌, Bool, true, false, List, [], ◌∷◌, length, Some, filter, refl, ◌∙◌, subst, inl, inr, arith}
use Rattle.std.specs.List.{AllByRecursion}
use Rattle.std.proofs.lemmas.Bool.{both_ways, cases_Bool, cond_both, or_cases, not-true, not_from_true, not_from_false}
use Rattle.weight.specs.Kind.{Kind, Lawful}
use Rattle.weight.proofs.Orders.{order_refl}
use Rattle.sheet.specs.declared.row.Item.{Item}
use Rattle.sheet.specs.declared.row.Standing.{Standing}
use Rattle.sheet.specs.declared.row.Standing.TheVariants.{Plain, Label, Fixed, Covered, Forced}
use Rattle.sheet.specs.Literals.{Literal, item_of, opposite, has}
use Rattle.sheet.specs.Rows.{is_live, is_label, item_at, live_at, label_at}
use Rattle.sheet.specs.Clauses.{Clause}
use Rattle.sheet.specs.Records.{ValidRecord}
use Rattle.sheet.specs.Sheets.{Sheet}
use Rattle.meaning.specs.Answers.{Values, Answer, is_true, met, charge, cost, AtMost}
use Rattle.meaning.specs.Unwinding.{made_true, mended, reset}
use Rattle.meaning.specs.Running.{Holds, NamesLive, Meaning}
use Rattle.meaning.proofs.Truth.{opposite_true}
use Rattle.meaning.proofs.Mending.{made_other}
use Rattle.meaning.proofs.Costs.{charged}
use Rattle.steps.specs.Rewriting.{is_other, but, lacks, lacking, retired}
use Rattle.steps.specs.Rooms.{Room}
use Rattle.steps.specs.Keeping.{Agrees, KeepsMeaning}
use Rattle.steps.specs.Propagation.{unit_of, unit_here, first_unit, settled_as, propagated, unit_record, made_unit, propagation, unit_fits}
use Rattle.steps.proofs.Members.{In, of_one, in_kept, in_kept_from, in_map, in_map_from, in_middle, has_in, lacks_in, in_but, in_but_from}
use Rattle.steps.proofs.Placing.{not_none, mapped_from, made_place}
use Rattle.steps.proofs.Opposites.{same_item, true_alike, made_true_lem}
use Rattle.steps.proofs.Meeting.{met_from, met_carried, each_met, meets_all_lem}
use Rattle.steps.proofs.Aging.{aged_retired, reset_other}
use Rattle.steps.proofs.Holding.{ClauseHolds, clause_holds, word_in, live_in, record_valid, named_in, names_live, kept_holds, retired_holds, Grown, grown_holds}
use Rattle.steps.proofs.Retiring.{label_affirmed, charged_as, retired_cheaper, retired_dearer, working_cost, grown_keeps}

unit_of_lem : (ws : List ℕ) (w : ℕ) → unit_of ws ≡ Some w → ws ≡ w ∷ []
unit_of_lem [] w found = absurd (not_none found)
unit_of_lem (x ∷ []) w found = cc
unit_of_lem (x ∷ y ∷ ws) w found = absurd (not_none found)

pub unit_place : (cs : List Clause) (w : ℕ) → first_unit cs ≡ Some w → (c : Clause) × In c cs × (c.lits ≡ w ∷ [])
unit_place cs w found =
    let place = made_place unit_here w cs found in
    (place.clause, rw place.parts at (in_middle place.clause place.before place.rest), unit_of_lem place.clause.lits w place.makes)

unit_true : (v : Values) (w : ℕ) → met v (w ∷ []) ≡ true → is_true v w ≡ true
unit_true v w is = elim (or_cases (is_true v w) false is) [ inl so ↦ so | inr never ↦ absurd (both_ways false refl never) ]

-- How an item stands once it is settled.

settled_label : (x : Standing) → is_label (settled_as x) ≡ is_label x
settled_label Plain = refl
settled_label Label = refl
settled_label Fixed = refl
settled_label Covered = refl
settled_label Forced = refl

-- a forced label costs what it did when it was yes
settled_charge : {V : Type 0} (k : Kind V) (w : V) (x : Standing) (a b : Bool) → is_live x ≡ true → (is_label x ≡ true → b ≡ true) → charge k w (settled_as x) a ≡ charge k w x b
settled_charge k w Plain a b live paid = refl
settled_charge k w Label a b live paid = rw (paid refl)
settled_charge k w Fixed a b live paid = refl
settled_charge k w Covered a b live paid = refl
settled_charge k w Forced a b live paid = refl

module _ {V : Type 0} {k : Kind V} (laws : Lawful k) {s : Sheet V} (holds : Holds k s) (c : Clause) (among : In c s.clauses) (w : ℕ) (unit : c.lits ≡ w ∷ []) where
  stands : ClauseHolds s.row c
  stands = clause_holds holds c among

  in_unit : In w c.lits
  in_unit = rw unit (inl refl)

  word : w < 65536
  word = word_in stands w in_unit

  live : live_at s.row (item_of w) ≡ true
  live = live_in stands w in_unit

  abbrev settled : Standing
  settled = settled_as (item_at s.row (item_of w)).standing

  -- the row once the item is settled
  abbrev later : List Item
  later = retired s.row (item_of w) settled

  -- Answers.

  abbrev after : Sheet V
  after = made_unit s w

  true_before : (v : Values) → Answer s v → is_true v w ≡ true
  true_before v answer = unit_true v w (rw unit at (each_met v s.clauses holds.kinds answer c among))

  -- an answer of the new sheet, with the unit unwound
  abbrev mended_unit : Values → Values
  mended_unit v = mended (unit_record w) (reset later v)

  mended_true : (v : Values) → is_true (mended_unit v) w ≡ true
  mended_true v =
      let u : Values = reset later v in
      cond_both (met u (w ∷ [])) u (made_true u w) (λ x. is_true x w ≡ true) (unit_true u w) (λ unmet. made_true_lem u w)

  mended_other : (v : Values) (j : ℕ) → (j ≡ item_of w → ⊥) → live_at s.row j ≡ true → mended_unit v j ≡ v j
  mended_other v j other still =
      let u : Values = reset later v in
      cond_both (met u (w ∷ [])) u (made_true u w) (λ x. x j ≡ u j) (λ is. refl) (λ unmet. made_other u w j other)
      ∙ reset_other s.row (item_of w) settled live v j other still

  -- what is left of a clause without the literal names other items
  left_apart : (d : Clause) → In d s.clauses → lacks w d ≡ true → (u : ℕ) → In u (but (opposite w) d.lits) → item_of u ≡ item_of w → ⊥
  left_apart d within without u left same =
      let was = in_but u (opposite w) d.lits left in
      elim (same_item u w (word_in (clause_holds holds d within) u was.0) word same) [
        | inl is ↦ lacks_in w d.lits (not-true (has w d.lits) without) (rw is at was.0)
        | inr denial ↦ was.1 denial
      ]

  -- each clause of the new sheet is what is left of an old one
  left_of : (d : Clause) → In d (propagated w s.clauses) → (e : Clause) × In e s.clauses × (lacks w e ≡ true) × (lacking (opposite w) e ≡ d)
  left_of d within =
      let made = in_map (lacking (opposite w)) d (filter (lacks w) s.clauses) within in
      let kept = in_kept (lacks w) made.0 s.clauses made.1 in
      (made.0, kept.0, kept.1, made.2)

  grown : Grown s after (unit_record w ∷ [])
  grown = record {
    callers = refl;
    weights = refl;
    aged = aged_retired s.row (item_of w) settled live (settled_label _);
    clauses = λ d within.
        let from = left_of d within in
        subst (ClauseHolds later) from.3
        (retired_holds s.row (item_of w) settled (lacking (opposite w) from.0) live (settled_label _) (left_apart from.0 from.1 from.2) (kept_holds s.row (is_other (opposite w)) from.0 (clause_holds holds from.0 from.1)));
    stack = refl;
    valid = of_one ValidRecord (unit_record w) (rw unit at (record_valid stands 3 w (omega arith, omega arith) in_unit));
    named = of_one (λ r. AllByRecursion (Literal (length s.row)) r.lits) (unit_record w) (rw unit at (named_in stands));
  }

  unit_forth : (v : Values) → Answer s v → Answer after v
  unit_forth v answer = meets_all_lem v (propagated w s.clauses) (λ d within.
      let from = left_of d within in
      let false_denial : is_true v (opposite w) ≡ false = opposite_true v w word ∙ not_from_true (is_true v w) (true_before v answer) in
      subst (λ x. met v x.lits ≡ true) from.3
      (met_carried v v from.0.lits (but (opposite w) from.0.lits) (each_met v s.clauses holds.kinds answer from.0 from.1)
      (λ u there is. (in_but_from u (opposite w) from.0.lits there (λ denial. both_ways (is_true v u) (rw denial false_denial) is), is))))

  unit_back : (v : Values) → Answer after v → Answer s (mended_unit v)
  unit_back v answer = meets_all_lem (mended_unit v) s.clauses (λ d within. elim (cases_Bool (has w d.lits)) [
    | inl there ↦ met_from (mended_unit v) w d.lits (has_in w d.lits there) (mended_true v)
    | inr without ↦
        let lacking_it : lacks w d ≡ true = not_from_false (has w d.lits) without in
        let left = in_map_from (lacking (opposite w)) d (filter (lacks w) s.clauses) (in_kept_from (lacks w) d s.clauses within lacking_it) in
        met_carried v (mended_unit v) (but (opposite w) d.lits) d.lits (each_met v (propagated w s.clauses) (grown_holds holds grown).kinds answer (lacking (opposite w) d) left)
        (λ u there is.
        let was = in_but u (opposite w) d.lits there in
        (was.0, true_alike (mended_unit v) v u (mended_other v (item_of u) (left_apart d within lacking_it u there) (live_in (clause_holds holds d within) u was.0)) ∙ is))
  ])

  -- Costs.

  true_paid : (v : Values) → is_true v w ≡ true → label_at s.row (item_of w) ≡ true → v (item_of w) ≡ true
  true_paid v is label = rw (label_affirmed stands w in_unit label) at is

  same_charge : (u v : Values) → is_true v w ≡ true → charged_as k s.weights s.row (item_of w) settled (u (item_of w)) ≡ charged k s.weights v (item_at s.row (item_of w)) (item_of w)
  same_charge u v is = settled_charge k _ (item_at s.row (item_of w)).standing (u (item_of w)) (v (item_of w)) live (true_paid v is)

  cost_forth : (v : Values) → Answer s v → AtMost k (cost k after v) (cost k s v)
  cost_forth v answer =
      rw (working_cost laws holds v, working_cost laws (grown_holds holds grown) v)
      (retired_cheaper laws s.weights s.row (item_of w) live settled v v (λ j other still. refl) (rw (same_charge v v (true_before v answer)) (order_refl laws _)))

  cost_back : (v : Values) → AtMost k (cost k s (mended_unit v)) (cost k after v)
  cost_back v =
      rw (working_cost laws holds (mended_unit v), working_cost laws (grown_holds holds grown) v)
      (retired_dearer laws s.weights s.row (item_of w) live settled (mended_unit v) v (mended_other v) (rw (same_charge v (mended_unit v) (mended_true v)) (order_refl laws _)))

  pub unit_keeps : Meaning k s after × Agrees k s after
  unit_keeps =
      grown_keeps holds grown
      (of_one (NamesLive s.row) (unit_record w) (rw unit at (names_live stands)))
      (λ v answer. (unit_back v answer, cost_back v))
      (λ v answer. (v, unit_forth v answer, cost_forth v answer, λ i plain. refl))

pub propagation_keeps : {V : Type 0} {k : Kind V} → Lawful k → (room : Room) → KeepsMeaning k propagation (λ t. unit_fits room t (first_unit t.clauses))
unfolding propagation
propagation_keeps {k = k} laws room s t found fits holds =
    let made = mapped_from (made_unit s) (first_unit s.clauses) t found in
    let unit = unit_place s.clauses made.0 made.1 in
    subst (λ x. Meaning k s x × Agrees k s x) made.2 (unit_keeps laws holds unit.0 unit.1 made.0 unit.2)
