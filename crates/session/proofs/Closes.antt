-- What a close finds in buffers that hold together, and what it leaves there. Assumes nothing.
use Rattle.std.proofs.Common.{◌≡◌, ℕ, ◌≤◌, cond, leb, List, map, length, take, drop, Some, None, Ok, Err, Result, sym, refl, ap, ◌∙◌, subst, ap₂, inl, inr, arith}
use Rattle.std.proofs.ByRecursion.{All-weaker}
use Rattle.std.proofs.lemmas.List.{length-take-le}
use Rattle.std.proofs.lemmas.Bool.{cases_Bool, leb-true}
use Rattle.weight.specs.Kind.{Lawful}
use Rattle.weight.specs.declared.kind.Weight.{Ghosts}
use Rattle.sheet.specs.declared.buffers.Phase.TheVariants.{Gathering as gathered}
use Rattle.sheet.specs.declared.buffers.Marks.{Marks}
use Rattle.sheet.specs.declared.buffers.Counts.{Counts}
use Rattle.sheet.specs.declared.refusal.Refusal.{Refusal}
use Rattle.sheet.specs.declared.refusal.Refusal.TheVariants.{NoRowForLabels}
use Rattle.sheet.specs.declared.row.Item.{Item}
use Rattle.sheet.specs.Literals.{Literal}
use Rattle.sheet.specs.Clauses.{Clause, Laid, clauses}
use Rattle.sheet.specs.Sheets.{Lent, used_clauses, used_row, used_records, used_weights, decoded}
use Rattle.sheet.specs.Together.{HoldsTogether}
use Rattle.meaning.specs.Calls.{Reached, gathering, working, by_close}
use Rattle.meaning.proofs.Reaching.{reached_faithful}
use Rattle.closing.specs.Labelling.{Closable, Needed, Ranged, closed_in, row_in}
use Rattle.session.specs.declared.gathering.Gathering.{Gathering}
use Rattle.session.specs.declared.working.Working.{Working}
use Rattle.session.specs.Closing.{items_needed, label_cause, close_cause, Labelled, gathered_by, worked_by, CloseAnswered, CloseFaithful}
use Rattle.session.proofs.Causes.{some_none}

-- a literal of few items is one of more
wider : (n p w : ℕ) → n ≤ p → Literal n w → Literal p w
wider n p w more lit = let high = lit.high in record { word = lit.word; low = lit.low; high = omega arith }

module _ {W : Type 0} (m : Ghosts W) (b : Lent W) (together : HoldsTogether m gathered b) (few : b.counts.items ≤ 2000) where
  pub ranged : (n : ℕ) → b.counts.items ≤ n → Ranged n (used_clauses b)
  ranged n more =
      All-weaker _ _ (λ c. All-weaker _ _ (λ w stands. wider b.counts.items n w more stands.literal) c.lits) (used_clauses b) together.sheet.literals

  -- the items needed, counted in the words
  pub needed_is : (n : ℕ) → Needed (used_clauses b) b.counts.items n → n ≡ items_needed m b
  unfolding decoded
  needed_is n needed = needed (used_row b) (length-take-le b.counts.items b.row together.row.fits)

  pub closable : items_needed m b ≤ length b.row → Closable b.sheet b.marks.sheet b.row b.counts.items
  unfolding decoded
  closable room = record {
    fits = together.sheet.fits.length;
    bound = together.sheet.fits.bound;
    laid = together.sheet.laid;
    few = few;
    ranged = ranged b.counts.items (omega arith);
    held = together.row.fits;
    room = room;
  }

  -- a row that refuses nothing has room
  pub room_passes : label_cause (items_needed m b) (length b.row) ≡ None → items_needed m b ≤ length b.row
  room_passes none = elim (cases_Bool (leb (items_needed m b) (length b.row))) [
    | inl fits ↦ leb-true (items_needed m b) (length b.row) fits
    | inr short ↦ absurd (some_none (sym (ap (λ t. cond t None (Some (NoRowForLabels (items_needed m b)))) short) ∙ none))
  ]

  -- the buffers once their clauses are closed
  pub labelled : (sheet : List ℕ) (row : List Item) (fill items : ℕ) → close_cause m b ≡ None → fill ≤ b.marks.sheet → Laid (take fill sheet)
      → clauses (take fill sheet) ≡ closed_in b.sheet b.marks.sheet b.row b.counts.items
      → items ≤ length row → take items row ≡ row_in b.sheet b.marks.sheet b.row b.counts.items → drop items row ≡ drop items b.row
      → Labelled m b (record { sheet = sheet; row = row; stack = b.stack; weights = b.weights; marks = record { sheet = fill; stack = b.marks.stack }; counts = record { callers = b.counts.callers; items = items; softs = b.counts.softs } })
  unfolding decoded
  labelled sheet row fill items passes shrinks laid closes held labels rest = record {
    together = together;
    passes = passes;
    after = ap₂ (λ (cs : List Clause) (r : List Item). record { callers = b.counts.callers; row = r; clauses = cs; stack = used_records b; weights = map m.value (used_weights b) }) closes labels;
    laid = laid;
    shorter = shrinks;
    behind = rest;
    counts = ap (λ n. record { callers = b.counts.callers; items = n; softs = b.counts.softs }) (sym (length-take-le items row held) ∙ ap length labels);
    stack = refl;
  }

module _ {W : Type 0} (m : Ghosts W) (laws : Lawful m.kind) (b : Lent W) (left : Marks → Counts → Lent W) where
  pub close_faithful : (r : Result Working (Gathering × Refusal)) → CloseAnswered m b left r → CloseFaithful m b left r
  close_faithful (Ok w) done = λ acc reached.
      let next : Reached m.kind working acc (decoded m (worked_by left w)) = by_close reached done.after in
      (next, reached_faithful laws working _ _ next)
  close_faithful (Err e) refused = λ acc reached.
      let same : Reached m.kind gathering acc (decoded m (gathered_by left e.0)) = subst (λ x. Reached m.kind gathering acc (decoded m x)) (sym refused.1) reached in
      (same, reached_faithful laws gathering _ _ same)
