-- An add by its causes: refused, passed over as a tautology, or stored. Assumes nothing.
use Rattle.std.proofs.Common.{◌≡◌, ℕ, ◌+◌, ◌<◌, ◌≤◌, Bool, true, false, cond, ◌||◌, leb, List, [], ◌++◌, length, take, set, ℤ, Some, None, Ok, Err, Option, Result, sym, refl, ap, ◌∙◌, subst, inl, inr, add-zero, arith}
use Rattle.std.specs.Option.{option_map}
use Rattle.std.proofs.lemmas.List.{append-nil}
use Rattle.std.proofs.lemmas.Bool.{cases_Bool, leb-false, or_parts}
use Rattle.weight.specs.Total.{total_in}
use Rattle.weight.specs.declared.kind.Weight.{Ghosts}
use Rattle.sheet.specs.declared.buffers.Phase.TheVariants.{Gathering}
use Rattle.sheet.specs.declared.clause.Tag.{Tag}
use Rattle.sheet.specs.declared.clause.Tag.TheVariants.{Hard as hard, Soft as soft}
use Rattle.sheet.specs.declared.refusal.Refusal.{Refusal}
use Rattle.sheet.specs.declared.refusal.Refusal.TheVariants.{BadLiteral, TooManySofts, TotalTooLarge}
use Rattle.sheet.specs.Clauses.{Clause, Valid, clause_words}
use Rattle.sheet.specs.Sheets.{Lent, decoded}
use Rattle.sheet.specs.Together.{HoldsTogether}
use Rattle.meaning.specs.Accepted.{must, wish, sent_of}
use Rattle.meaning.specs.Calls.{normal, tautology, stored}
use Rattle.meaning.proofs.Inserting.{normal_normal}
use Rattle.sending.specs.Sending.{InRange, bad_place}
use Rattle.sending.proofs.Normals.{normal_short}
use Rattle.sending.proofs.Refusing.{none_bad}
use Rattle.session.specs.declared.claim.Claim.{Claim}
use Rattle.session.specs.declared.claim.Claim.TheVariants.{Hard, Soft}
use Rattle.session.specs.Refusing.{or_else}
use Rattle.session.specs.Adding.{accepted, soft_cause, words_cause, stored_clause, add_cause, written_weights, written_softs, Stored, Taken, AddAnswered}
use Rattle.session.proofs.Causes.{some_none}
use Rattle.session.proofs.Storing.{laid_push, decoded_hard, decoded_soft}

-- what is not there is none
none_from : {X : Type 0} (o : Option X) → ((x : X) → o ≡ Some x → ⊥) → o ≡ None
none_from None never = refl
none_from (Some x) never = absurd (never x refl)

-- what is stored of literals in range, and not a tautology, follows the layout
pub stored_valid : (n : ℕ) (zs : List ℤ) → n ≤ 2000 → InRange n zs → tautology (normal zs) ≡ false → (c : Clause) → c.lits ≡ normal zs → Valid c
stored_valid n zs few ranged plain c is =
    let short = normal_short n zs few ranged in
    record { count = omega (arith, ap length is); normal = rw is (normal_normal zs plain) }

module _ {W : Type 0} (m : Ghosts W) (b : Lent W) (zs : List ℤ) (claim : Claim W) where
  own : Option Refusal
  own = or_else (soft_cause m b.counts.softs b.weights claim) (words_cause b.marks.sheet (length b.sheet) (length (clause_words (stored_clause b zs claim))))

  pub bad_cause : (place : ℕ) → bad_place b.counts.callers zs ≡ Some place → add_cause m b zs claim ≡ Some (BadLiteral place)
  unfolding own
  bad_cause place bad = ap (λ o. or_else (option_map BadLiteral o) (cond (tautology (normal zs)) None own)) bad

  module _ (good : bad_place b.counts.callers zs ≡ None) where
    past_literals : add_cause m b zs claim ≡ cond (tautology (normal zs)) None own
    unfolding own
    past_literals = ap (λ o. or_else (option_map BadLiteral o) (cond (tautology (normal zs)) None own)) good

    pub tautology_passes : tautology (normal zs) ≡ true → add_cause m b zs claim ≡ None
    tautology_passes both = past_literals ∙ ap (λ t. cond t None own) both

    module _ (plain : tautology (normal zs) ≡ false) where
      pub soft_cause_lem : (e : Refusal) → soft_cause m b.counts.softs b.weights claim ≡ Some e → add_cause m b zs claim ≡ Some e
      unfolding own
      soft_cause_lem e is = past_literals ∙ ap (λ t. cond t None own) plain ∙ ap (λ o. or_else o (words_cause b.marks.sheet (length b.sheet) (length (clause_words (stored_clause b zs claim))))) is

      -- and where it passes, the soft finds a place
      pub soft_none : add_cause m b zs claim ≡ None → soft_cause m b.counts.softs b.weights claim ≡ None
      soft_none passes = none_from (soft_cause m b.counts.softs b.weights claim) (λ e is. some_none (sym (soft_cause_lem e is) ∙ passes))

      pub words_cause_lem : soft_cause m b.counts.softs b.weights claim ≡ None → (o : Option Refusal) → words_cause b.marks.sheet (length b.sheet) (length (clause_words (stored_clause b zs claim))) ≡ o → add_cause m b zs claim ≡ o
      unfolding own
      words_cause_lem none o is = past_literals ∙ ap (λ t. cond t None own) plain ∙ ap (λ x. or_else x (words_cause b.marks.sheet (length b.sheet) (length (clause_words (stored_clause b zs claim))))) none ∙ is

module _ {W : Type 0} (m : Ghosts W) (b : Lent W) (zs : List ℤ) (claim : Claim W) where
  pub sent_is : sent_of (accepted m zs claim) ≡ zs
  sent_is = by_claim claim
    where
      by_claim : (x : Claim W) → sent_of (accepted m zs x) ≡ zs
      by_claim Hard = refl
      by_claim (Soft w) = refl

  -- what an add that passes shows of its causes
  module _ (passes : add_cause m b zs claim ≡ None) where
    pub good_literals : bad_place b.counts.callers zs ≡ None
    good_literals = none_from (bad_place b.counts.callers zs) (λ place bad. some_none (sym (bad_cause m b zs claim place bad) ∙ passes))

    pub soft_admitted : tautology (normal zs) ≡ false → soft_cause m b.counts.softs b.weights claim ≡ None
    soft_admitted plain = soft_none m b zs claim good_literals plain passes

module _ {W : Type 0} (m : Ghosts W) (b : Lent W) (zs : List ℤ) (together : HoldsTogether m Gathering b) (good : bad_place b.counts.callers zs ≡ None) where
  pub taken_tautology : (claim : Claim W) → tautology (normal zs) ≡ true → Taken m zs claim b b
  taken_tautology claim both = record {
    together = together;
    passes = tautology_passes m b zs claim good both;
    after = sym (ap (λ t. cond t (decoded m b) (stored (decoded m b) (accepted m zs claim))) (ap (λ ys. tautology (normal ys)) (sent_is m b zs claim) ∙ both));
    words = sym (append-nil (take b.marks.sheet b.sheet)) ∙ ap (λ t. take b.marks.sheet b.sheet ++ cond t [] (clause_words (stored_clause b zs claim))) (sym both);
    laid = together.sheet.laid;
    weights = ap (λ t. cond t b.weights (written_weights b claim)) (sym both);
    marks = ap (λ n. record { sheet = n; stack = b.marks.stack }) (sym (add-zero b.marks.sheet) ∙ ap (λ t. b.marks.sheet + length (cond t [] (clause_words (stored_clause b zs claim)))) (sym both));
    counts = ap (λ n. record { callers = b.counts.callers; items = b.counts.items; softs = n }) (sym (add-zero b.counts.softs) ∙ ap (λ t. b.counts.softs + cond t 0 (written_softs claim)) (sym both));
  }

  module _ (few : b.counts.callers ≤ 2000) (plain : tautology (normal zs) ≡ false) (sheet : List ℕ) (end : ℕ) where
    ranged : InRange b.counts.callers zs
    ranged = none_bad b.counts.callers 0 zs good

    -- a clause written behind the others
    abbrev Written : Claim W → Type 0
    Written claim = (words_cause b.marks.sheet (length b.sheet) (length (clause_words (stored_clause b zs claim))) ≡ None)
        × (end ≡ b.marks.sheet + length (clause_words (stored_clause b zs claim)))
        × (take end sheet ≡ take b.marks.sheet b.sheet ++ clause_words (stored_clause b zs claim))

    pub taken_hard : Written Hard → Taken m zs Hard b (record { sheet = sheet; row = b.row; stack = b.stack; weights = b.weights; marks = record { sheet = end; stack = b.marks.stack }; counts = b.counts })
    taken_hard written =
        let valid = stored_valid b.counts.callers zs few ranged plain (stored_clause b zs Hard) refl in
        record {
          together = together;
          passes = words_cause_lem m b zs Hard good plain refl None written.0;
          after = decoded_hard m b sheet end zs together.sheet.laid valid written.2 ∙ sym (ap (λ t. cond t (decoded m b) (stored (decoded m b) (must zs))) plain);
          words = written.2 ∙ ap (λ t. take b.marks.sheet b.sheet ++ cond t [] (clause_words (stored_clause b zs Hard))) (sym plain);
          laid = rw written.2 (laid_push (take b.marks.sheet b.sheet) (stored_clause b zs Hard) together.sheet.laid valid);
          weights = ap (λ t. cond t b.weights b.weights) (sym plain);
          marks = ap (λ n. record { sheet = n; stack = b.marks.stack }) (written.1 ∙ ap (λ t. b.marks.sheet + length (cond t [] (clause_words (stored_clause b zs Hard)))) (sym plain));
          counts = ap (λ n. record { callers = b.counts.callers; items = b.counts.items; softs = n }) (sym (add-zero b.counts.softs) ∙ ap (λ t. b.counts.softs + cond t 0 0) (sym plain));
        }

    pub taken_soft : (w : W) → soft_cause m b.counts.softs b.weights (Soft w) ≡ None → b.counts.softs < length b.weights → Written (Soft w)
        → Taken m zs (Soft w) b (record { sheet = sheet; row = b.row; stack = b.stack; weights = set b.weights b.counts.softs w; marks = record { sheet = end; stack = b.marks.stack }; counts = record { callers = b.counts.callers; items = b.counts.items; softs = b.counts.softs + 1 } })
    taken_soft w none room written =
        let valid = stored_valid b.counts.callers zs few ranged plain (stored_clause b zs (Soft w)) refl in
        record {
          together = together;
          passes = words_cause_lem m b zs (Soft w) good plain none None written.0;
          after = decoded_soft m b sheet end zs together.sheet.laid w room valid written.2 ∙ sym (ap (λ t. cond t (decoded m b) (stored (decoded m b) (wish zs (m.value w)))) plain);
          words = written.2 ∙ ap (λ t. take b.marks.sheet b.sheet ++ cond t [] (clause_words (stored_clause b zs (Soft w)))) (sym plain);
          laid = rw written.2 (laid_push (take b.marks.sheet b.sheet) (stored_clause b zs (Soft w)) together.sheet.laid valid);
          weights = ap (λ t. cond t b.weights (set b.weights b.counts.softs w)) (sym plain);
          marks = ap (λ n. record { sheet = n; stack = b.marks.stack }) (written.1 ∙ ap (λ t. b.marks.sheet + length (cond t [] (clause_words (stored_clause b zs (Soft w))))) (sym plain));
          counts = ap (λ t. record { callers = b.counts.callers; items = b.counts.items; softs = b.counts.softs + cond t 0 1 }) (sym plain);
        }

-- a soft that finds a place and keeps the total within the ceiling
pub soft_passes : {W : Type 0} (m : Ghosts W) (softs : ℕ) (weights : List W) (w : W) → soft_cause m softs weights (Soft w) ≡ None
    → (softs < 2000) × (softs < length weights) × (m.kind.within (m.kind.sum (total_in m (take softs weights)) (m.value w)) ≡ true)
soft_passes m softs weights w none = elim (cases_Bool (leb 2000 softs || leb (length weights) softs)) [
  | inl full ↦ absurd (some_none (sym (ap (λ t. cond t (Some (TooManySofts softs)) rest) full) ∙ none))
  | inr free ↦
      let parts = or_parts (leb 2000 softs) (leb (length weights) softs) free in
      let low = leb-false 2000 softs parts.0 in
      let room = leb-false (length weights) softs parts.1 in
      let left = sym (ap (λ t. cond t (Some (TooManySofts softs)) rest) free) ∙ none in
      elim (cases_Bool within) [
        | inl fits ↦ (low, room, fits)
        | inr past ↦ absurd (some_none (sym (ap (λ t. cond t None (Some (TotalTooLarge softs))) past) ∙ left))
      ]
]
  where
    within : Bool
    within = m.kind.within (m.kind.sum (total_in m (take softs weights)) (m.value w))

    rest : Option Refusal
    rest = cond within None (Some (TotalTooLarge softs))

-- What a store leaves is what the add answers.
module _ {W : Type 0} (m : Ghosts W) (b : Lent W) (zs : List ℤ) (claim : Claim W) (together : HoldsTogether m Gathering b) (good : bad_place b.counts.callers zs ≡ None)
    (few : b.counts.callers ≤ 2000) (plain : tautology (normal zs) ≡ false) (ws : List ℕ) (is : ws ≡ normal zs) (sheet : List ℕ) where
  abbrev StoredAs : Tag → Result ℕ Refusal → Type 0
  StoredAs tag r = Stored b.marks.sheet (record { tag = tag; lits = ws }) b.sheet sheet r

  named_alike : (tag : Tag) (r : Result ℕ Refusal) → StoredAs tag r → Stored b.marks.sheet (record { tag = tag; lits = normal zs }) b.sheet sheet r
  named_alike tag r stored' = subst (λ xs. Stored b.marks.sheet (record { tag = tag; lits = xs }) b.sheet sheet r) is stored'

  same_sheet : sheet ≡ b.sheet → record { sheet = sheet; row = b.row; stack = b.stack; weights = b.weights; marks = b.marks; counts = b.counts } ≡ b
  same_sheet same = ap (λ s. record { sheet = s; row = b.row; stack = b.stack; weights = b.weights; marks = b.marks; counts = b.counts }) same

  pub hard_refused : claim ≡ Hard → (e : Refusal) → StoredAs hard (Err e)
      → AddAnswered m zs claim b (record { sheet = sheet; row = b.row; stack = b.stack; weights = b.weights; marks = b.marks; counts = b.counts }) (Err e)
  hard_refused is-hard e refused =
      let told = named_alike hard (Err e) refused in
      rw is-hard (inr (together, words_cause_lem m b zs Hard good plain refl (Some e) told.0), same_sheet told.1)

  pub hard_stored : claim ≡ Hard → (end : ℕ) → StoredAs hard (Ok end)
      → AddAnswered m zs claim b (record { sheet = sheet; row = b.row; stack = b.stack; weights = b.weights; marks = record { sheet = end; stack = b.marks.stack }; counts = b.counts }) (Ok tt)
  hard_stored is-hard end done = rw is-hard (taken_hard m b zs together good few plain sheet end (named_alike hard (Ok end) done))

  module _ (w : W) (is-soft : claim ≡ Soft w) (none : soft_cause m b.counts.softs b.weights (Soft w) ≡ None) where
    pub soft_refused : (e : Refusal) → StoredAs (soft b.counts.softs) (Err e)
        → AddAnswered m zs claim b (record { sheet = sheet; row = b.row; stack = b.stack; weights = b.weights; marks = b.marks; counts = b.counts }) (Err e)
    soft_refused e refused =
        let told = named_alike (soft b.counts.softs) (Err e) refused in
        rw is-soft (inr (together, words_cause_lem m b zs (Soft w) good plain none (Some e) told.0), same_sheet told.1)

    pub soft_stored : (end : ℕ) → StoredAs (soft b.counts.softs) (Ok end)
        → AddAnswered m zs claim b (record { sheet = sheet; row = b.row; stack = b.stack; weights = set b.weights b.counts.softs w; marks = record { sheet = end; stack = b.marks.stack }; counts = record { callers = b.counts.callers; items = b.counts.items; softs = b.counts.softs + 1 } }) (Ok tt)
    soft_stored end done = rw is-soft (taken_soft m b zs together good few plain sheet end w none (soft_passes m b.counts.softs b.weights w none).1 (named_alike (soft b.counts.softs) (Ok end) done))
