-- The row and the clauses of a sheet that closes, clause by clause. Assumes nothing.
use Rattle.std.proofs.Common.{◌≡◌, ℕ, suc, ◌+◌, ◌-◌, ◌<◌, ◌≤◌, Bool, true, false, cond, not, ◌&&◌, eqb, List, [], ◌∷◌, ◌++◌, length, set, refl, ap, ◌∙◌, inl, inr, arith}
use mathlib.Core.Bool.{or-false}
use Rattle.std.specs.List.{AllByRecursion}
use Rattle.std.proofs.ByRecursion.{All-append, All-set, All-push}
use Rattle.std.proofs.lemmas.List.{length-set, length_push}
use Rattle.std.proofs.lemmas.Bool.{both_ways, cases_Bool, cases_eq, eqb-true, eq-eqb, or_left, and_parts, cond_both}
use Rattle.sheet.specs.Literals.{Literal, item_of, denied}
use Rattle.sheet.specs.declared.row.Item.{Item}
use Rattle.sheet.specs.Rows.{label_at}
use Rattle.sheet.specs.declared.clause.Tag.{Tag}
use Rattle.sheet.specs.declared.clause.Tag.TheVariants.{Hard, Soft, Working}
use Rattle.sheet.specs.Clauses.{Clause, soft_ordinals}
use Rattle.meaning.specs.Answers.{Values, is_true, met}
use Rattle.meaning.specs.Calls.{label_item, insert, names, softs_naming, in_hard, lends_item, only_item, labelled_row, working_clause, closed_row, closed_clauses}
use Rattle.meaning.proofs.Places.{set_other, push_before}
use Rattle.meaning.proofs.Gathering.{Live}

-- What is known of a soft that lends its item.
pub record Lends (all : List Clause) (ws : List ℕ) : Type 0 where
  pub ranged : (n : ℕ) → AllByRecursion (Literal n) ws → (1 ≤ only_item ws) × (only_item ws ≤ n)
  pub once : softs_naming (only_item ws) all ≡ 1
  pub named : names (only_item ws) ws ≡ true
  pub met_unless : (v : Values) → met v ws ≡ not (v (only_item ws))

pub lends : (all : List Clause) (ws : List ℕ) → lends_item all ws ≡ true → Lends all ws
lends all [] is = absurd (both_ways false refl is)
lends all (w ∷ []) is =
    let parts = and_parts (denied w) (eqb (softs_naming (item_of w) all) 1 && not (in_hard w all)) is in
    record {
      ranged = λ n literals. (literals.0.low, literals.0.high);
      once = eqb-true (softs_naming (item_of w) all) 1 (and_parts _ (not (in_hard w all)) parts.1).0;
      named = or_left (eqb (item_of w) (item_of w)) false (eq-eqb (item_of w) (item_of w) refl);
      met_unless = λ v. or-false (is_true v w) ∙ ap (λ b. cond b (not (v (item_of w))) (v (item_of w))) parts.0;
    }
lends all (w ∷ x ∷ ws) is = absurd (both_ways false refl is)

one_at_most : (b : Bool) → cond {A = ℕ} b 1 0 ≤ 1
one_at_most b = cond_both {A = ℕ} b 1 0 (λ x. x ≤ 1) (λ is. omega arith) (λ is. omega arith)

module _ (all : List Clause) where
  -- the row behind a clause, and what becomes of the clause
  abbrev pub row_behind : List Item → Clause → List Item
  row_behind row c = labelled_row all c.tag c.lits row

  abbrev pub made_of : List Item → Clause → List Clause
  made_of row c = working_clause all c.tag c.lits row

  made_working : (row : List Item) (t : Tag) (ws : List ℕ) → AllByRecursion (λ c. c.tag ≡ Working) (working_clause all t ws row)
  made_working row Hard ws = (refl, tt)
  made_working row (Soft o) ws = cond_both (lends_item all ws) [] (record { tag = Working; lits = insert (suc (length row)) ws } ∷ []) (AllByRecursion (λ c. c.tag ≡ Working)) (λ is. tt) (λ is. (refl, tt))
  made_working row Working ws = (refl, tt)

  pub closed_working : (row : List Item) (cs : List Clause) → AllByRecursion (λ c. c.tag ≡ Working) (closed_clauses all row cs)
  closed_working row [] = tt
  closed_working row (c ∷ cs) = All-append _ (made_of row c) _ (made_working row c.tag c.lits) (closed_working (row_behind row c) cs)

  -- What holds while the softs of `cs` wait for their labels; the first n items are the caller's.
  pub record Waiting (n : ℕ) (row : List Item) (cs : List Clause) : Type 0 where
    pub wide : n ≤ length row
    pub room : length row + length (soft_ordinals cs) < 32767
    pub live : Live row
    pub literals : AllByRecursion (λ c. AllByRecursion (Literal n) c.lits) cs
    -- a caller's item that is a label is named by a soft that waits no more
    pub named : (m : ℕ) → m ≤ n → cond (label_at row m) 1 0 + softs_naming m cs ≤ softs_naming m all

  module _ (n : ℕ) (row : List Item) (o : ℕ) (ws : List ℕ) (cs : List Clause) (r : Waiting n row (record { tag = Soft o; lits = ws } ∷ cs)) where
    fewer : (m : ℕ) → softs_naming m cs ≤ cond (names m ws) (suc (softs_naming m cs)) (softs_naming m cs)
    fewer m = cond_both (names m ws) _ _ (λ x. softs_naming m cs ≤ x) (λ is. omega arith) (λ is. omega arith)

    -- the item that it lends is no label yet
    pub unlabelled : Lends all ws → label_at row (only_item ws) ≡ false
    unlabelled own = elim (cases_Bool (label_at row (only_item ws))) [
      | inl is ↦ let twice = rw (is, own.named, own.once) at (r.named (only_item ws) (own.ranged n r.literals.0).1) in absurd (omega arith)
      | inr isnt ↦ isnt
    ]

    soft_waiting : (b : Bool) → lends_item all ws ≡ b → Waiting n (cond b (set row (only_item ws - 1) (label_item o)) (row ++ (label_item o ∷ []))) cs
    soft_waiting true is =
        let own = lends all ws is in
        let same : length (set row (only_item ws - 1) (label_item o)) ≡ length row = length-set row (only_item ws - 1) (label_item o) in
        record {
          wide = omega (arith, r.wide);
          room = omega (arith, r.room);
          live = All-set _ row (only_item ws - 1) (label_item o) refl r.live;
          literals = r.literals.1;
          named = λ m low. elim (cases_eq m (only_item ws)) [
            | inl here ↦ let before = rw own.named at (r.named (only_item ws) (rw here at low)) in rw here (omega (arith, one_at_most))
            | inr other ↦ rw (set_other row (only_item ws) m (label_item o) (own.ranged n r.literals.0).0 other) (omega (arith, r.named m low, fewer m))
          ];
        }
    soft_waiting false is =
        let more : length (row ++ (label_item o ∷ [])) ≡ length row + 1 = length_push row (label_item o) in
        record {
          wide = omega (arith, r.wide);
          room = omega (arith, r.room);
          live = All-push _ row (label_item o) r.live refl;
          literals = r.literals.1;
          named = λ m low. rw (push_before row (label_item o) m (omega (arith, r.wide))) (omega (arith, r.named m low, fewer m));
        }

  pub waiting_behind : (n : ℕ) (row : List Item) (c : Clause) (cs : List Clause) → Waiting n row (c ∷ cs) → Waiting n (row_behind row c) cs
  waiting_behind n row c cs = by_tag c.tag c.lits
    where
      by_tag : (t : Tag) (ws : List ℕ) → Waiting n row (record { tag = t; lits = ws } ∷ cs) → Waiting n (labelled_row all t ws row) cs
      by_tag Hard ws r = record { wide = r.wide; room = r.room; live = r.live; literals = r.literals.1; named = r.named }
      by_tag (Soft o) ws r = soft_waiting n row o ws cs r (lends_item all ws) refl
      by_tag Working ws r = record { wide = r.wide; room = r.room; live = r.live; literals = r.literals.1; named = r.named }

  pub waiting_end : (n : ℕ) (row : List Item) (cs : List Clause) → Waiting n row cs → Waiting n (closed_row all row cs) []
  waiting_end n row [] r = r
  waiting_end n row (c ∷ cs) r = waiting_end n (row_behind row c) cs (waiting_behind n row c cs r)
