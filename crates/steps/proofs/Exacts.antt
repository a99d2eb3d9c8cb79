-- A step that keeps every answer, and every label as it is paid: what it means, and that the same labels can be paid. Assumes nothing.
use Rattle.std.proofs.Common.{◌≡◌, ℕ, suc, ◌+◌, Bool, true, false, cond, List, [], ◌∷◌, length, get_or, Some, Option, sym, refl, ap, ◌∙◌, ap₂, inl, inr, arith}
use Rattle.std.proofs.lemmas.List.{append-nil}
use Rattle.std.proofs.lemmas.Bool.{both_ways, cases_Bool}
use Rattle.weight.specs.Kind.{Kind, Lawful}
use Rattle.weight.proofs.Orders.{order_refl}
use Rattle.sheet.specs.declared.row.Item.{Item}
use Rattle.sheet.specs.declared.row.Standing.{Standing}
use Rattle.sheet.specs.declared.row.Standing.TheVariants.{Plain, Label, Fixed, Covered, Forced}
use Rattle.sheet.specs.Literals.{item_of}
use Rattle.sheet.specs.Rows.{is_label, absent, item_at, label_at}
use Rattle.sheet.specs.Clauses.{Clause}
use Rattle.sheet.specs.Records.{Record}
use Rattle.sheet.specs.Sheets.{Sheet}
use Rattle.meaning.specs.Answers.{Values, Answer, charge, row_cost, cost}
use Rattle.meaning.specs.Unwinding.{reset, unwound}
use Rattle.meaning.specs.Running.{Holds, NamesLive, Meaning}
use Rattle.meaning.proofs.Costs.{charged}
use Rattle.meaning.proofs.Agreement.{reset_live}
use Rattle.steps.specs.Keeping.{Agrees, SamePaid, KeepsMeaning, KeepsPayable}
use Rattle.steps.specs.Rewriting.{is_payable, payable_at, with_clauses}
use Rattle.steps.proofs.Members.{In}
use Rattle.steps.proofs.Aging.{aged_same, payable_live, unlabelled_unpayable}
use Rattle.steps.proofs.Opposites.{true_alike}
use Rattle.steps.proofs.Meeting.{met_carried, MeetsEach, each_met, meets_all_lem}
use Rattle.steps.proofs.Holding.{ClauseHolds, live_in, Grown, grown_holds}
use Rattle.steps.proofs.Retiring.{working_cost, grown_keeps}

-- t has the answers of s: an answer stays one, and an answer of t, with the new records unwound, is one of s that pays the same live labels.
pub record Exact {V : Type 0} (s t : Sheet V) (news : List Record) : Type 0 where
  pub grown : Grown s t news
  pub names : (r : Record) → In r news → NamesLive s.row r
  pub labels : (i : ℕ) → label_at s.row i ≡ true → item_at t.row i ≡ item_at s.row i
  pub on : (v : Values) → MeetsEach v s.clauses → MeetsEach v t.clauses
  pub off : (v : Values) → MeetsEach (reset t.row v) t.clauses → MeetsEach (unwound news (reset t.row v)) s.clauses
  pub pays : (v : Values) (i : ℕ) → payable_at s.row i ≡ true → unwound news (reset t.row v) i ≡ v i

-- Answers.

pub reset_each : (row : List Item) (cs : List Clause) → ((c : Clause) → In c cs → ClauseHolds row c) → (v : Values) → MeetsEach v cs → MeetsEach (reset row v) cs
reset_each row cs hold v each c among =
    met_carried v (reset row v) c.lits c.lits (each c among) (λ w there is. (there, true_alike (reset row v) v w (reset_live row v (item_of w) (live_in (hold c among) w there)) ∙ is))

module _ {V : Type 0} {k : Kind V} {s t : Sheet V} {news : List Record} (exact : Exact s t news) (holds : Holds k s) where
  pub exact_on : (v : Values) → Answer s v → Answer t v
  exact_on v answer = meets_all_lem v t.clauses (exact.on v (each_met v s.clauses holds.kinds answer))

  pub exact_off : (v : Values) → Answer t v → Answer s (unwound news (reset t.row v))
  exact_off v answer = meets_all_lem (unwound news (reset t.row v)) s.clauses (exact.off v (reset_each t.row t.clauses exact.grown.clauses v (each_met v t.clauses (grown_holds holds exact.grown).kinds answer)))

-- Costs.

module _ {V : Type 0} (k : Kind V) where
  charge_free : (w : V) (x : Standing) (b : Bool) → is_label x ≡ false → charge k w x b ≡ k.zero
  charge_free w Plain b other = refl
  charge_free w Label b other = absurd (both_ways true other refl)
  charge_free w Fixed b other = refl
  charge_free w Covered b other = refl
  charge_free w Forced b other = absurd (both_ways true other refl)

  -- only a live label's value counts
  charge_payable : (w : V) (x : Standing) (a b : Bool) → (is_payable x ≡ true → a ≡ b) → charge k w x a ≡ charge k w x b
  charge_payable w Plain a b same = refl
  charge_payable w Label a b same = ap (λ y. cond y w k.zero) (same refl)
  charge_payable w Fixed a b same = refl
  charge_payable w Covered a b same = refl
  charge_payable w Forced a b same = refl

  pub rows_cost_alike : (weights : List V) (u v : Values) (i : ℕ) (xs ys : List Item) → length xs ≡ length ys → ((j m : ℕ) → m ≡ i + j → charged k weights u (get_or xs j absent) m ≡ charged k weights v (get_or ys j absent) m) → row_cost k weights u i xs ≡ row_cost k weights v i ys
  rows_cost_alike weights u v i [] [] long same = refl
  rows_cost_alike weights u v i [] (y ∷ ys) long same = absurd (omega arith)
  rows_cost_alike weights u v i (x ∷ xs) [] long same = absurd (omega arith)
  rows_cost_alike weights u v i (x ∷ xs) (y ∷ ys) long same = ap₂ k.sum (same 0 i (omega arith)) (rows_cost_alike weights u v (suc i) xs ys (omega arith) (λ j m at. same (suc j) m (omega arith)))

module _ {V : Type 0} {k : Kind V} (laws : Lawful k) {s t : Sheet V} {news : List Record} (exact : Exact s t news) where
  same_charge : (u v : Values) → ((i : ℕ) → payable_at s.row i ≡ true → u i ≡ v i) → (i : ℕ) → charged k s.weights u (item_at t.row i) i ≡ charged k s.weights v (item_at s.row i) i
  same_charge u v same i = elim (cases_Bool (label_at s.row i)) [
    | inl label ↦ rw (exact.labels i label) (charge_payable k _ (item_at s.row i).standing (u i) (v i) (same i))
    | inr other ↦ charge_free k _ (item_at t.row i).standing (u i) (exact.grown.aged.labels i ∙ other) ∙ sym (charge_free k _ (item_at s.row i).standing (v i) other)
  ]

  module _ (holds : Holds k s) where
    same_cost : (u v : Values) → ((i : ℕ) → payable_at s.row i ≡ true → u i ≡ v i) → cost k t u ≡ cost k s v
    same_cost u v same =
        rw (working_cost laws holds v, working_cost laws (grown_holds holds exact.grown) u, exact.grown.weights)
        (rows_cost_alike k s.weights u v 1 t.row s.row exact.grown.aged.items (λ j m at. let next : m ≡ suc j = omega arith in rw next (same_charge u v same (suc j))))

    pub exact_meaning : Meaning k s t × Agrees k s t
    exact_meaning =
        grown_keeps holds exact.grown exact.names
        (λ v answer. (exact_off exact holds v answer, rw (same_cost v _ (λ i payable. sym (exact.pays v i payable))) (order_refl laws _)))
        (λ v answer. (v, exact_on exact holds v answer, rw (same_cost v v (λ i payable. refl)) (order_refl laws _), λ i plain. refl))

-- Labels.

module _ {V : Type 0} {s t : Sheet V} {news : List Record} (exact : Exact s t news) where
  same_payable : (i : ℕ) → payable_at t.row i ≡ payable_at s.row i
  same_payable i = elim (cases_Bool (label_at s.row i)) [
    | inl label ↦ ap (λ x. is_payable x.standing) (exact.labels i label)
    | inr other ↦ unlabelled_unpayable (item_at t.row i).standing (exact.grown.aged.labels i ∙ other) ∙ sym (unlabelled_unpayable (item_at s.row i).standing other)
  ]

  pub exact_pays : {k : Kind V} → Holds k s → SamePaid s t
  exact_pays holds = record {
    labels = same_payable;
    forth = λ paid can. (can.0, exact_on exact holds can.0 can.1, λ i payable. can.2 i (sym (same_payable i) ∙ payable));
    back = λ paid can. (unwound news (reset t.row can.0), exact_off exact holds can.0 can.1, λ i payable. exact.pays can.0 i payable ∙ can.2 i (same_payable i ∙ payable));
  }

-- Only the clauses change, to others with the same answers.

pub exact_clauses : {V : Type 0} (s : Sheet V) (cs : List Clause) → ((c : Clause) → In c cs → ClauseHolds s.row c) → ((v : Values) → MeetsEach v s.clauses → MeetsEach v cs) → ((v : Values) → MeetsEach v cs → MeetsEach v s.clauses) → Exact s (with_clauses s cs) []
exact_clauses s cs hold on off = record {
  grown = record {
    callers = refl;
    weights = refl;
    aged = aged_same s.row;
    clauses = hold;
    stack = sym (append-nil s.stack);
    valid = λ r among. absurd among;
    named = λ r among. absurd among;
  };
  names = λ r among. absurd among;
  labels = λ i label. refl;
  on = on;
  off = λ v each. off (reset s.row v) each;
  pays = λ v i payable. reset_live s.row v i (payable_live (item_at s.row i).standing payable);
}

-- What is to be proved of a step that is exact wherever it is made.

module _ {V : Type 0} (k : Kind V) (step : Sheet V → Option (Sheet V)) (fits : Sheet V → Bool) where
  abbrev pub IsExact : Type 0
  IsExact = (s t : Sheet V) → step s ≡ Some t → fits s ≡ true → Holds k s → (news : List Record) × Exact s t news

  pub exact_keeps : Lawful k → IsExact → KeepsMeaning k step fits
  exact_keeps laws exact s t made room holds = exact_meaning laws (exact s t made room holds).1 holds

  pub exact_payable : IsExact → KeepsPayable k step fits
  exact_payable exact s t made room holds = exact_pays (exact s t made room holds).1 holds
