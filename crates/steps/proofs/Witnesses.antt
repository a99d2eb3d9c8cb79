-- What becomes of clauses where the witness of an unmet clause is made true. Assumes nothing.
use Rattle.std.proofs.Common.{◌≡◌, ℕ, true, false, List, sym, ◌∙◌, subst, inl, inr}
use Rattle.std.proofs.lemmas.Bool.{not_from_false}
use Rattle.sheet.specs.declared.row.Item.{Item}
use Rattle.sheet.specs.Literals.{item_of, opposite}
use Rattle.sheet.specs.Clauses.{Clause}
use Rattle.meaning.specs.Answers.{Values, is_true, met}
use Rattle.meaning.specs.Unwinding.{made_true}
use Rattle.meaning.proofs.Truth.{opposite_true}
use Rattle.steps.proofs.Members.{In}
use Rattle.steps.proofs.Opposites.{opposite_item, same_item, made_true_lem, made_true_other, made_keeps}
use Rattle.steps.proofs.Meeting.{met_from, unmet_false, met_carried}
use Rattle.steps.proofs.Holding.{ClauseHolds, word_in, one_sign_in}

pub witness_met : (v : Values) (w : ℕ) (ws : List ℕ) → In w ws → met (made_true v w) ws ≡ true
witness_met v w ws among = met_from (made_true v w) w ws among (made_true_lem v w)

module _ {row : List Item} {c d : Clause} (c_holds : ClauseHolds row c) (d-holds : ClauseHolds row d) (v : Values) (w : ℕ) (among : In w c.lits) where
  -- a clause that does not deny it stays met
  pub undenied_met : (In (opposite w) d.lits → ⊥) → met v d.lits ≡ true → met (made_true v w) d.lits ≡ true
  undenied_met none is = met_carried v (made_true v w) d.lits d.lits is (λ u there so.
      (there, made_keeps v w u (word_in c_holds w among) (word_in d-holds u there) (λ same. none (subst (λ x. In x d.lits) same there)) so))

  -- a clause that denies another literal of the unmet one is met by that denial
  pub denial_met : met v c.lits ≡ false → (x : ℕ) → In x c.lits → (x ≡ w → ⊥) → In (opposite x) d.lits → met (made_true v w) d.lits ≡ true
  denial_met unmet x there differs denial =
      let word = word_in c_holds x there in
      let other : item_of (opposite x) ≡ item_of w → ⊥ = λ same. elim (same_item x w word (word_in c_holds w among) (sym (opposite_item x word) ∙ same)) [
        | inl is ↦ differs is
        | inr is ↦ one_sign_in c_holds w among (subst (λ y. In y c.lits) is there)
      ] in
      met_from (made_true v w) (opposite x) d.lits denial (made_true_other v w (opposite x) other ∙ opposite_true v x word ∙ not_from_false (is_true v x) (unmet_false v x c.lits unmet there))
