-- What unwinding leaves as it is, and records unwound one list after another. Assumes nothing.
use Rattle.std.proofs.Common.{◌≡◌, ℕ, true, false, ◌&&◌, eqb, List, [], ◌∷◌, ◌++◌, sym, refl, ap, ◌∙◌, inl, inr}
use mathlib.Core.Path.{fun_ext}
use Rattle.std.specs.List.{AllByRecursion}
use Rattle.std.proofs.lemmas.Bool.{both_ways, cases_Bool, ne_eqb, cond-false, cond_both}
use Rattle.sheet.specs.Literals.{item_of}
use Rattle.sheet.specs.declared.row.Item.{Item}
use Rattle.sheet.specs.Rows.{live_at}
use Rattle.sheet.specs.Records.{Record, ValidRecord}
use Rattle.meaning.specs.Answers.{Values, met}
use Rattle.meaning.specs.Unwinding.{made_true, mended, unwound, reset}
use Rattle.meaning.specs.Running.{NamesLive}
use Rattle.meaning.proofs.Inserting.{has_all}
use Rattle.meaning.proofs.Agreement.{reset_live}

pub unwound_append : (xs ys : List Record) (v : Values) → unwound (xs ++ ys) v ≡ unwound xs (unwound ys v)
unwound_append [] ys v = refl
unwound_append (r ∷ rs) ys v = ap (mended r) (unwound_append rs ys v)

pub made_other : (v : Values) (w i : ℕ) → (i ≡ item_of w → ⊥) → made_true v w i ≡ v i
made_other v w i other = cond-false (eqb i (item_of w)) _ _ (ne_eqb i (item_of w) other)

module _ (row : List Item) where
  -- the witness is one of the literals
  pub witness_live : (r : Record) → ValidRecord r → NamesLive row r → live_at row (item_of r.witness) ≡ true
  witness_live r valid names = has_all _ r.witness r.lits valid.witness names

  -- records of live items leave the others as they are
  pub unwound_keeps : (rs : List Record) → AllByRecursion ValidRecord rs → AllByRecursion (NamesLive row) rs → (v : Values) (i : ℕ) → live_at row i ≡ false → unwound rs v i ≡ v i
  unwound_keeps [] valid names v i gone = refl
  unwound_keeps (r ∷ rs) valid names v i gone =
      let u : Values = unwound rs v in
      cond_both (met u r.lits) u (made_true u r.witness) (λ x. x i ≡ u i) (λ is. refl)
      (λ is. made_other u r.witness i (λ here. both_ways (live_at row i) gone (ap (live_at row) here ∙ witness_live r valid.0 names.0)))
      ∙ unwound_keeps rs valid.1 names.1 v i gone

  -- where retired items are no already
  pub reset_same : (v : Values) → ((i : ℕ) → live_at row i ≡ false → v i ≡ false) → reset row v ≡ v
  reset_same v no-yes = fun_ext (λ i. elim (cases_Bool (live_at row i)) [
    | inl live ↦ reset_live row v i live
    | inr gone ↦ ap (λ b. b && v i) gone ∙ sym (no-yes i gone)
  ])
