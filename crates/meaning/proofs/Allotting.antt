-- Each soft of a sheet that closes gets its label. Assumes nothing.
use Rattle.std.proofs.Common.{◌≡◌, ℕ, suc, ◌-◌, Bool, true, false, cond, List, [], ◌∷◌, ◌++◌, length, set, refl, ap, ◌∙◌, arith}
use Rattle.std.specs.List.{AllByRecursion}
use Rattle.std.proofs.ByRecursion.{All-append, All-weaker}
use Rattle.std.proofs.lemmas.Bool.{both_ways}
use Rattle.sheet.specs.declared.row.Item.{Item}
use Rattle.sheet.specs.declared.clause.Tag.{Tag}
use Rattle.sheet.specs.declared.clause.Tag.TheVariants.{Hard, Soft, Working}
use Rattle.sheet.specs.Rows.{is_label, item_at, label_at}
use Rattle.sheet.specs.Clauses.{Clause, ordinal_of, soft_ordinals}
use Rattle.meaning.specs.Calls.{label_item, lends_item, only_item, labelled_row, closed_row}
use Rattle.meaning.proofs.Places.{item_inside, set_here, set_other, push_here, push_before}
use Rattle.meaning.proofs.Ordinals.{HasLabel}
use Rattle.meaning.proofs.Labelling.{lends, row_behind, Waiting, unlabelled, waiting_behind}

-- the same items where `row` has labels
abbrev Keeps : List Item → List Item → Type 0
Keeps row next = (i : ℕ) → label_at row i ≡ true → item_at next i ≡ item_at row i

has_kept : (row next : List Item) → Keeps row next → (o : ℕ) → HasLabel row o → HasLabel next o
has_kept row next keeps o (i, label, is) = let same = keeps i label in (i, ap (λ x. is_label x.standing) same ∙ label, ap (λ x. x.ordinal) same ∙ is)

labelled_here : (row : List Item) (i o : ℕ) → item_at row i ≡ label_item o → HasLabel row o
labelled_here row i o is = (i, ap (λ x. is_label x.standing) is, ap (λ x. x.ordinal) is)

module _ (all : List Clause) (n : ℕ) where
  -- A soft's label is new, and the others are kept.
  module _ (row : List Item) (o : ℕ) (ws : List ℕ) (cs : List Clause) (r : Waiting all n row (record { tag = Soft o; lits = ws } ∷ cs)) where
    soft_label : (b : Bool) → lends_item all ws ≡ b → let next = cond b (set row (only_item ws - 1) (label_item o)) (row ++ (label_item o ∷ [])) in Keeps row next × HasLabel next o
    soft_label true is =
        let own = lends all ws is in
        let range = own.ranged n r.literals.0 in (
          λ i label. set_other row (only_item ws) i (label_item o) range.0 (λ here. both_ways (label_at row i) (rw here (unlabelled all n row o ws cs r own)) label),
          labelled_here _ (only_item ws) o (set_here row (only_item ws) (label_item o) range.0 (omega (arith, r.wide))),
        )
    soft_label false is = (
      λ i label. push_before row (label_item o) i (item_inside is_label refl row i label),
      labelled_here _ (suc (length row)) o (push_here row (label_item o)),
    )

  behind : (row : List Item) (c : Clause) (cs : List Clause) → Waiting all n row (c ∷ cs) → Keeps row (row_behind all row c) × AllByRecursion (HasLabel (row_behind all row c)) (ordinal_of c.tag)
  behind row c cs = by_tag c.tag c.lits
    where
      by_tag : (t : Tag) (ws : List ℕ) → Waiting all n row (record { tag = t; lits = ws } ∷ cs) → Keeps row (labelled_row all t ws row) × AllByRecursion (HasLabel (labelled_row all t ws row)) (ordinal_of t)
      by_tag Hard ws r = (λ i label. refl, tt)
      by_tag (Soft o) ws r = let new = soft_label row o ws cs r (lends_item all ws) refl in (new.0, (new.1, tt))
      by_tag Working ws r = (λ i label. refl, tt)

  closed_keeps : (row : List Item) (cs : List Clause) → Waiting all n row cs → Keeps row (closed_row all row cs)
  closed_keeps row [] r i label = refl
  closed_keeps row (c ∷ cs) r i label =
      let here = (behind row c cs r).0 i label in
      closed_keeps (row_behind all row c) cs (waiting_behind all n row c cs r) i (ap (λ x. is_label x.standing) here ∙ label) ∙ here

  pub closed_labels : (row : List Item) (cs : List Clause) → Waiting all n row cs → AllByRecursion (HasLabel (closed_row all row cs)) (soft_ordinals cs)
  closed_labels row [] r = tt
  closed_labels row (c ∷ cs) r =
      let next : List Item = row_behind all row c in
      let later = waiting_behind all n row c cs r in
      All-append _ (ordinal_of c.tag) (soft_ordinals cs)
      (All-weaker _ _ (λ o. has_kept next (closed_row all next cs) (closed_keeps next cs later) o) (ordinal_of c.tag) (behind row c cs r).1)
      (closed_labels next cs later)
