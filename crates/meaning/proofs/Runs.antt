-- A run keeps a sheet faithful, and runs follow one another. Assumes nothing.
use Rattle.std.proofs.Common.{◌≡◌, ℕ, suc, Bool, true, false, ◌&&◌, List, [], ◌++◌, length, sym, refl, ap, ◌∙◌, ap₂, inl, inr}
use Rattle.std.specs.List.{AllByRecursion}
use Rattle.std.proofs.ByRecursion.{All-drop, All-append, All-weaker}
use Rattle.std.proofs.lemmas.List.{drop_at, append-nil, append_assoc}
use Rattle.std.proofs.lemmas.Bool.{both_ways, cases_Bool}
use Rattle.weight.specs.Kind.{Kind, Lawful}
use Rattle.weight.proofs.Orders.{order_refl}
use Rattle.sheet.specs.Literals.{item_of}
use Rattle.sheet.specs.Rows.{is_live, item_at, live_at, label_at}
use Rattle.sheet.specs.Records.{ValidRecord}
use Rattle.sheet.specs.Sheets.{Sheet}
use Rattle.meaning.specs.Answers.{Values, meets_all, cost, paid_cost}
use Rattle.meaning.specs.Unwinding.{reset, unwound, plan_of}
use Rattle.meaning.specs.Accepted.{Accepted}
use Rattle.meaning.specs.Running.{Holds, Meaning}
use Rattle.meaning.specs.LeastCosts.{Faithful}
use Rattle.meaning.proofs.Ordinals.{label_ranged, label_apart, AllLabelled}
use Rattle.meaning.proofs.Agreement.{meets_alike, softs_alike, reset_live, row_alike}
use Rattle.meaning.proofs.Mending.{unwound_append, unwound_keeps, reset_same}
use Rattle.meaning.proofs.Paying.{paid, paid_alike}
use Rattle.meaning.proofs.Faith.{faithful}

module _ {V : Type 0} {k : Kind V} {s t : Sheet V} (m : Meaning k s t) where
  pub still_retired : (i : ℕ) → live_at s.row i ≡ false → live_at t.row i ≡ false
  still_retired i gone = ap (λ x. is_live x.standing) (m.retired i gone) ∙ gone

  pub live_before : (i : ℕ) → live_at t.row i ≡ true → live_at s.row i ≡ true
  live_before i live = elim (cases_Bool (live_at s.row i)) [
    | inl was ↦ was
    | inr gone ↦ absurd (both_ways (live_at t.row i) (still_retired i gone) live)
  ]

  -- Unwinding.

  news_valid : AllByRecursion ValidRecord m.news
  news_valid = rw (m.stack, drop_at s.stack m.news (length s.stack) refl) at (All-drop ValidRecord (length s.stack) t.stack m.holds.records)

  -- an answer of t, with the new records unwound
  abbrev pub before : Values → Values
  before v = unwound m.news (reset t.row v)

  -- what was retired before the run stays no
  pub before_reset : (v : Values) → reset s.row (before v) ≡ before v
  before_reset v = reset_same s.row (before v) (λ i gone. unwound_keeps s.row m.news news_valid m.names (reset t.row v) i gone ∙ ap (λ b. b && v i) (still_retired i gone))

  pub plan_before : (v : Values) → plan_of t v ≡ plan_of s (before v)
  plan_before v = ap (λ rs. unwound rs (reset t.row v)) m.stack ∙ unwound_append s.stack m.news (reset t.row v) ∙ ap (unwound s.stack) (sym (before_reset v))

  -- Labels.

  pub run_labelled : AllLabelled s → AllLabelled t
  run_labelled labelled o inside =
      let found = labelled o (rw m.weights at inside) in
      let still = m.labels found.0 found.1 in
      (found.0, still.0, still.1 ∙ found.2)

  module _ (labelled : AllLabelled s) where
    -- its ordinal is that of a label already, and no two labels share one
    label_before : (i : ℕ) → label_at t.row i ≡ true → label_at s.row i ≡ true
    label_before i label =
        let found = labelled (item_at t.row i).ordinal (rw m.weights at (label_ranged (length t.weights) t.row m.holds.ranged i label)) in
        let still = m.labels found.0 found.1 in
        let same : i ≡ found.0 = label_apart t.row m.holds.apart i found.0 label still.0 (sym (still.1 ∙ found.2)) in
        rw same found.1

    paid_before : (weights : List V) (i : ℕ) (b : Bool) → paid k weights (item_at t.row i) b ≡ paid k weights (item_at s.row i) b
    paid_before weights i b = elim (cases_Bool (label_at s.row i)) [
      | inl label ↦ let still = m.labels i label in rw (label, still.0, still.1)
      | inr other ↦ elim (cases_Bool (label_at t.row i)) [
        | inl label ↦ absurd (both_ways (label_at s.row i) other (label_before i label))
        | inr still ↦ rw (other, still)
      ]
    ]

    pub pays_before : (p : Values) → paid_cost k t.weights p 1 t.row ≡ paid_cost k s.weights p 1 s.row
    pays_before p = rw m.weights (paid_alike k s.weights p 1 t.row s.row m.items (λ j. paid_before s.weights (suc j)))

module _ {V : Type 0} {k : Kind V} (laws : Lawful k) where
  pub run_faithful : (acc : List (Accepted V)) {s t : Sheet V} → AllLabelled s → Faithful k acc s → Meaning k s t → Faithful k acc t
  run_faithful acc {s} {t} labelled f m =
      faithful laws acc t
      (λ v answer.
      let back = m.back v answer in
      let plan = f.answers_unwind (before m v) back.0 in
      rw (plan_before m v) (plan.0, laws.trans _ _ _ plan.1 back.1))
      (λ p plan.
      let old = f.plans_answered p plan in
      let new = m.forth old.0 old.1 in
      (new.0, new.1, laws.trans _ _ _ new.2 old.2))
      (λ v answer.
      let back = m.back v answer in
      rw (plan_before m v, pays_before m labelled (plan_of s (before m v))) (laws.trans _ _ _ (f.unwound_pays_no_more (before m v) back.0) back.1))

  -- Runs one after another.

  -- an answer is the same one where its retired items are no
  pub reset_answer : {s : Sheet V} → Holds k s → (v : Values) → (meets_all (reset s.row v) s.clauses ≡ meets_all v s.clauses) × (cost k s (reset s.row v) ≡ cost k s v)
  reset_answer {s} holds v =
      let u : Values = reset s.row v in
      let alike = All-weaker _ _ (λ c. All-weaker _ _ (λ w stands. reset_live s.row v (item_of w) (stands.live stands.literal.high)) c.lits) s.clauses holds.literals in
      (meets_alike u v s.clauses alike, ap₂ k.sum (row_alike k s.weights u v s.row (reset_live s.row v)) (softs_alike k s.weights u v s.clauses alike))

  pub meaning_refl : {s : Sheet V} → Holds k s → Meaning k s s
  meaning_refl {s} holds = record {
    callers = refl;
    weights = refl;
    items = refl;
    retired = λ i gone. refl;
    labels = λ i label. (label, refl);
    holds = holds;
    news = [];
    stack = sym (append-nil s.stack);
    names = tt;
    back = λ v answer. let same = reset_answer holds v in (same.0 ∙ answer, rw same.1 (order_refl laws (cost k s v)));
    forth = λ v answer. (v, answer, order_refl laws (cost k s v));
  }

  pub meaning_trans : {s t u : Sheet V} → Meaning k s t → Meaning k t u → Meaning k s u
  meaning_trans {s} {t} {u} m n = record {
    callers = n.callers ∙ m.callers;
    weights = n.weights ∙ m.weights;
    items = n.items ∙ m.items;
    retired = λ i gone. n.retired i (still_retired m i gone) ∙ m.retired i gone;
    labels = λ i label. let still = m.labels i label in let then = n.labels i still.0 in (then.0, then.1 ∙ still.1);
    holds = n.holds;
    news = m.news ++ n.news;
    stack = n.stack ∙ ap (λ rs. rs ++ n.news) m.stack ∙ append_assoc s.stack m.news n.news;
    names = All-append _ m.news n.news m.names (All-weaker _ _ (λ r. All-weaker _ _ (λ w. live_before m (item_of w)) r.lits) n.news n.names);
    back = λ v answer.
        let last = n.back v answer in
        let first = m.back (before n v) last.0 in
        let both : unwound (m.news ++ n.news) (reset u.row v) ≡ before m (before n v) = unwound_append m.news n.news (reset u.row v) ∙ ap (unwound m.news) (sym (before_reset n v)) in
        rw both (first.0, laws.trans _ _ _ first.1 last.1);
    forth = λ v answer.
        let first = m.forth v answer in
        let last = n.forth first.0 first.1 in
        (last.0, last.1, laws.trans _ _ _ last.2 first.2);
  }
