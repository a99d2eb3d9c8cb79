-- Bounded variable elimination: the resolvents keep what the clauses of an item say of the others, and the records restore its value. Assumes nothing.
use Rattle.std.proofs.Common.{◌≡◌, ℕ, ◌+◌, ◌<◌, true, false, not, ◌&&◌, ◌||◌, leb, ◌⊎◌, List, [], ◌∷◌, map, length, filter, sym, refl, ap, ◌∙◌, subst, inl, inr, arith}
use Rattle.std.proofs.lemmas.Bool.{and_parts, or_parts, or_from, both_ways, cases_Bool, cond-true, cond-false, not-true, not_from_false, ltb-true}
use Rattle.weight.specs.Kind.{Kind, Lawful}
use Rattle.sheet.specs.declared.row.Standing.TheVariants.{Fixed}
use Rattle.sheet.specs.Literals.{item_of, opposite, has}
use Rattle.sheet.specs.Rows.{item_at, live_at, label_at}
use Rattle.sheet.specs.Clauses.{Clause}
use Rattle.sheet.specs.Records.{Record}
use Rattle.sheet.specs.Sheets.{Sheet}
use Rattle.meaning.specs.Answers.{Values, is_true, met}
use Rattle.meaning.specs.Unwinding.{made_true, mended, unwound, reset}
use Rattle.meaning.specs.Running.{Holds}
use Rattle.meaning.proofs.Mending.{made_other}
use Rattle.meaning.proofs.Truth.{affirmed_true, opposite_true}
use Rattle.steps.specs.Places.{every, nameable}
use Rattle.steps.specs.Rooms.{Room, clauses_fit, records_fit}
use Rattle.steps.specs.Rewriting.{having, plain_at, payable_at, retired}
use Rattle.steps.specs.Elimination.{resolvents, may_go, first_to_go, lacks_both, elimination_record, elimination_records, eliminated, elimination, is_counted, elimination_fits}
use Rattle.steps.specs.Keeping.{KeepsMeaning, KeepsPayable}
use Rattle.steps.proofs.Members.{In, in_left, in_right, in_append, in_kept, in_kept_from, in_map, every_in, has_in, lacks_in}
use Rattle.steps.proofs.Placing.{mapped_at, item_place}
use Rattle.steps.proofs.Opposites.{same_item}
use Rattle.steps.proofs.Meeting.{met_from, MeetsEach}
use Rattle.steps.proofs.Aging.{plain_live, plain_unlabelled, payable_live, payable_apart, retired_other, aged_retired, reset_other, reset_here}
use Rattle.steps.proofs.Holding.{ClauseHolds, clause_holds, word_in, named_in, names_live, record_valid, retired_holds}
use Rattle.steps.proofs.Witnesses.{witness_met, undenied_met}
use Rattle.steps.proofs.Resolvents.{resolvent_met, resolved_met, resolvent_apart, resolvent_holds, in_having, in_having_from, in_resolvents, in_resolvents_from}
use Rattle.steps.proofs.Exacts.{Exact, IsExact, exact_keeps, exact_payable}

-- Unwinding.

-- one of the clauses is unmet
pub record Unmet (v : Values) (cs : List Clause) : Type 0 where
  pub clause : Clause
  pub among : In clause cs
  pub unmet : met v clause.lits ≡ false

-- Records with one witness leave the values, where all their clauses are met, or make it true.
unwound_eliminated : (v : Values) (x : ℕ) (cs : List Clause) → ((c : Clause) → In c cs → In x c.lits) → ((unwound (map (elimination_record x) cs) v ≡ v) × MeetsEach v cs) ⊎ ((unwound (map (elimination_record x) cs) v ≡ made_true v x) × Unmet v cs)
unwound_eliminated v x [] x_in = inl (refl, λ c among. absurd among)
unwound_eliminated v x (c ∷ cs) x_in = elim (unwound_eliminated v x cs (λ d among. x_in d (inr among))) [
  | inl (same, each) ↦ elim (cases_Bool (met v c.lits)) [
    | inl is ↦ inl (
      ap (mended (elimination_record x c)) same ∙ cond-true (met v c.lits) v (made_true v x) is,
      λ d among. elim among [
        | inl here ↦ ap (λ e. met v e.lits) (sym here) ∙ is
        | inr later ↦ each d later
      ],
    )
    | inr fails ↦ inr (ap (mended (elimination_record x c)) same ∙ cond-false (met v c.lits) v (made_true v x) fails, record { clause = c; among = inl refl; unmet = fails })
  ]
  | inr (same, one) ↦ inr (
    ap (mended (elimination_record x c)) same ∙ cond-true (met (made_true v x) c.lits) (made_true v x) (made_true (made_true v x) x) (witness_met v x c.lits (x_in c (inl refl))),
    record { clause = one.clause; among = inr one.among; unmet = one.unmet },
  )
]

module _ {V : Type 0} (k : Kind V) (s : Sheet V) (x : ℕ) (low : x < 32768) (plain : plain_at s.row x ≡ true) (counted : every is_counted (resolvents x s.clauses) ≡ true) (holds : Holds k s) where
  live : live_at s.row x ≡ true
  live = plain_live (item_at s.row x).standing plain

  unlabelled : label_at s.row x ≡ false
  unlabelled = plain_unlabelled (item_at s.row x).standing plain

  word : x < 65536
  word = omega arith

  itself : item_of x ≡ x
  itself = omega arith

  abbrev kept : List Clause
  kept = filter (lacks_both x) s.clauses

  -- The clauses without the item stay.

  in_kept_clauses : (c : Clause) → In c s.clauses → has x c.lits ≡ false → has (opposite x) c.lits ≡ false → In c kept
  in_kept_clauses c among lacks undenied = in_kept_from (lacks_both x) c s.clauses among (not_from_false (has x c.lits || has (opposite x) c.lits) (or_from (has x c.lits) (has (opposite x) c.lits) lacks undenied))

  kept_apart : (c : Clause) → In c kept → (w : ℕ) → In w c.lits → item_of w ≡ x → ⊥
  kept_apart c among w there same =
      let found = in_kept (lacks_both x) c s.clauses among in
      let lacks = or_parts (has x c.lits) (has (opposite x) c.lits) (not-true (has x c.lits || has (opposite x) c.lits) found.1) in
      elim (same_item w x (word_in (clause_holds holds c found.0) w there) word (same ∙ sym itself)) [
        | inl is ↦ lacks_in x c.lits lacks.0 (subst (λ u. In u c.lits) is there)
        | inr is ↦ lacks_in (opposite x) c.lits lacks.1 (subst (λ u. In u c.lits) is there)
      ]

  still_holds : (c : Clause) → ((w : ℕ) → In w c.lits → item_of w ≡ x → ⊥) → ClauseHolds s.row c → ClauseHolds (retired s.row x Fixed) c
  still_holds c = retired_holds s.row x Fixed c live (sym unlabelled)

  eliminated_holds : (c : Clause) → In c (eliminated s x).clauses → ClauseHolds (retired s.row x Fixed) c
  eliminated_holds r among = elim (in_append r kept (resolvents x s.clauses) among) [
    | inl old ↦ still_holds r (kept_apart r old) (clause_holds holds r (in_kept (lacks_both x) r s.clauses old).0)
    | inr new ↦
        let by = in_resolvents x s.clauses r new in
        let c_holds = clause_holds holds by.c by.c_in in
        let d-holds = clause_holds holds by.d by.d_in in
        let few = ltb-true (length r.lits) 4096 (every_in is_counted r (resolvents x s.clauses) counted new) in
        subst (ClauseHolds (retired s.row x Fixed)) by.is (still_holds _
        (λ w there same. resolvent_apart c_holds d-holds x by.x_in by.denial_in w there (same ∙ sym itself))
        (resolvent_holds c_holds d-holds x by.x_in by.denial_in by.does (rw (sym by.is) at few)))
  ]

  -- An answer stays one.

  eliminated_met : (v : Values) → MeetsEach v s.clauses → MeetsEach v (eliminated s x).clauses
  eliminated_met v each r among = elim (in_append r kept (resolvents x s.clauses) among) [
    | inl old ↦ each r (in_kept (lacks_both x) r s.clauses old).0
    | inr new ↦ let by = in_resolvents x s.clauses r new in ap (λ e. met v e.lits) (sym by.is) ∙ resolvent_met v x by.c by.d word (each by.c by.c_in) (each by.d by.d_in)
  ]

  -- And back, from values where the item is no.

  module _ (v : Values) (no-yes : v x ≡ false) (each : MeetsEach v (eliminated s x).clauses) where
    -- a clause, by whether it has the item or its denial
    by_item : (u : Values) → ((c : Clause) → In c s.clauses → In x c.lits → met u c.lits ≡ true) → ((c : Clause) → In c s.clauses → In (opposite x) c.lits → met u c.lits ≡ true) → ((c : Clause) → In c s.clauses → has (opposite x) c.lits ≡ false → met v c.lits ≡ true → met u c.lits ≡ true) → MeetsEach u s.clauses
    by_item u affirmed denied neither c among = elim (cases_Bool (has x c.lits)) [
      | inl there ↦ affirmed c among (has_in x c.lits there)
      | inr lacks ↦ elim (cases_Bool (has (opposite x) c.lits)) [
        | inl there ↦ denied c among (has_in (opposite x) c.lits there)
        | inr undenied ↦ neither c among undenied (each c (in_left c kept (resolvents x s.clauses) (in_kept_clauses c among lacks undenied)))
      ]
    ]

    denial_true : is_true v (opposite x) ≡ true
    denial_true = opposite_true v x word ∙ ap not (affirmed_true v x low ∙ no-yes)

    -- the item can be no
    all_met : MeetsEach v (having x s.clauses) → MeetsEach v s.clauses
    all_met Met-all =
        by_item v
        (λ c among there. Met-all c (in_having_from x c s.clauses among there))
        (λ c among there. met_from v (opposite x) c.lits there denial_true)
        (λ c among undenied is. is)

    -- it is to be yes
    one_unmet : Unmet v (having x s.clauses) → MeetsEach (made_true v x) s.clauses
    one_unmet one =
        let c = one.clause in
        let found = in_having x c s.clauses one.among in
        let c_holds = clause_holds holds c found.0 in
        by_item (made_true v x)
        (λ d among there. witness_met v x d.lits there)
        (λ d among there. resolved_met c_holds (clause_holds holds d among) x found.1 v one.unmet (λ does. each _ (in_right _ kept (resolvents x s.clauses) (in_resolvents_from x s.clauses c d found.0 among found.1 there does))))
        (λ d among undenied is. undenied_met c_holds (clause_holds holds d among) v x found.1 (lacks_in (opposite x) d.lits undenied) is)

  unwinding : (v : Values) → ((unwound (elimination_records x s.clauses) v ≡ v) × MeetsEach v (having x s.clauses)) ⊎ ((unwound (elimination_records x s.clauses) v ≡ made_true v x) × Unmet v (having x s.clauses))
  unwinding v = unwound_eliminated v x (having x s.clauses) (λ c among. (in_having x c s.clauses among).1)

  unwound_met : (v : Values) → v x ≡ false → MeetsEach v (eliminated s x).clauses → MeetsEach (unwound (elimination_records x s.clauses) v) s.clauses
  unwound_met v no-yes each = elim (unwinding v) [
    | inl (same, Met-all) ↦ rw same (all_met v no-yes each Met-all)
    | inr (same, one) ↦ rw same (one_unmet v no-yes each one)
  ]

  -- the item is no label
  unwound_pays : (v : Values) (i : ℕ) → payable_at s.row i ≡ true → unwound (elimination_records x s.clauses) v i ≡ v i
  unwound_pays v i payable = elim (unwinding v) [
    | inl (same, Met-all) ↦ ap (λ u. u i) same
    | inr (same, one) ↦ ap (λ u. u i) same ∙ made_other v x i (λ is. payable_apart s.row i x payable plain (is ∙ itself))
  ]

  records_from : (P : Record → Type 0) → ((c : Clause) → ClauseHolds s.row c → In x c.lits → P (elimination_record x c)) → (r : Record) → In r (elimination_records x s.clauses) → P r
  records_from P each r among =
      let found = in_map (elimination_record x) r (having x s.clauses) among in
      let from = in_having x found.0 s.clauses found.1 in
      subst P found.2 (each found.0 (clause_holds holds found.0 from.0) from.1)

  eliminated_exact : Exact s (eliminated s x) (elimination_records x s.clauses)
  eliminated_exact = record {
    grown = record {
      callers = refl;
      weights = refl;
      aged = aged_retired s.row x Fixed live (sym unlabelled);
      clauses = eliminated_holds;
      stack = refl;
      valid = records_from _ (λ c c_holds x_in. record_valid c_holds 1 x (omega arith) x_in);
      named = records_from _ (λ c c_holds x_in. named_in c_holds);
    };
    names = records_from _ (λ c c_holds x_in. names_live c_holds);
    labels = λ i label. retired_other s.row x Fixed live i (λ is. both_ways (label_at s.row i) (ap (label_at s.row) is ∙ unlabelled) label);
    on = eliminated_met;
    off = λ v each. unwound_met (reset (retired s.row x Fixed) v) (reset_here s.row x Fixed live v refl) each;
    pays = λ v i payable. unwound_pays (reset (retired s.row x Fixed) v) i payable ∙ reset_other s.row x Fixed live v i (λ is. payable_apart s.row i x payable plain is) (payable_live (item_at s.row i).standing payable);
  }

elimination_exact : {V : Type 0} (k : Kind V) (room : Room) → IsExact k elimination (λ t. elimination_fits room t (first_to_go t))
unfolding elimination
elimination_exact k room s t step fits holds = mapped_at (λ u. (news : List Record) × Exact s u news) (eliminated s) (first_to_go s) t step (λ x found.
    let new = resolvents x s.clauses in
    let place = item_place (may_go s.row s.clauses) 1 (nameable (length s.row)) x found in
    let low : x < 32768 = omega (arith, place.1) in
    let plain = (and_parts (plain_at s.row x) (leb (length new) (length (having x s.clauses) + length (having (opposite x) s.clauses))) place.2).0 in
    let counted = (and_parts (every is_counted new) (clauses_fit room s new && records_fit room s (elimination_records x s.clauses)) (rw found at fits)).0 in
    (elimination_records x s.clauses, eliminated_exact k s x low plain counted holds))

pub elimination_keeps : {V : Type 0} {k : Kind V} → Lawful k → (room : Room) → KeepsMeaning k elimination (λ t. elimination_fits room t (first_to_go t))
elimination_keeps {k = k} laws room = exact_keeps k elimination (λ t. elimination_fits room t (first_to_go t)) laws (elimination_exact k room)

pub elimination_pays : {V : Type 0} (k : Kind V) (room : Room) → KeepsPayable k elimination (λ t. elimination_fits room t (first_to_go t))
elimination_pays k room = exact_payable k elimination (λ t. elimination_fits room t (first_to_go t)) (elimination_exact k room)
