-- Literals that are met, and clauses that are all met. Assumes nothing.
use Rattle.std.proofs.Common.{◌≡◌, ℕ, Bool, true, false, ◌||◌, List, [], ◌∷◌, None, sym, refl, ap, ◌∙◌}
use Rattle.std.specs.List.{AllByRecursion, list_any, position_from}
use Rattle.std.proofs.lemmas.Iterator.Adapters.{position_from-zero}
use Rattle.std.proofs.lemmas.Bool.{and_from, not-false, false≢true}
use Rattle.sheet.specs.declared.buffers.Phase.TheVariants.{Working as in_work}
use Rattle.sheet.specs.declared.clause.Tag.{Tag}
use Rattle.sheet.specs.declared.clause.Tag.TheVariants.{Hard, Soft, Working}
use Rattle.sheet.specs.Clauses.{Clause}
use Rattle.sheet.specs.Together.{of_phase}
use Rattle.meaning.specs.Answers.{Values, is_true, met, kept_as, meets_all}
use Rattle.unwinding.specs.Bytes.{first_unmet, is_unmet}
use Rattle.unwinding.proofs.Searching.{all_from_none}

module _ (v : Values) where
  pub met_is_any : (ws : List ℕ) → list_any (is_true v) ws ≡ met v ws
  met_is_any [] = refl
  met_is_any (w ∷ ws) = ap (λ b. is_true v w || b) (met_is_any ws)

  -- a working clause binds
  kept_working : (t : Tag) (is_met : Bool) → of_phase in_work t ≡ true → kept_as t is_met ≡ is_met
  kept_working Hard is_met works = absurd (false≢true works)
  kept_working (Soft n) is_met works = absurd (false≢true works)
  kept_working Working is_met works = refl

  met_all : (cs : List Clause) → AllByRecursion (λ c. of_phase in_work c.tag ≡ true) cs → AllByRecursion (λ c. is_unmet v c ≡ false) cs → meets_all v cs ≡ true
  met_all [] works each = refl
  met_all (c ∷ cs) works each =
      and_from (kept_as c.tag (met v c.lits)) (meets_all v cs) (kept_working c.tag (met v c.lits) works.0 ∙ not-false _ each.0) (met_all cs works.1 each.1)

  pub meets_from_none : (cs : List Clause) → AllByRecursion (λ c. of_phase in_work c.tag ≡ true) cs → first_unmet v cs ≡ None → meets_all v cs ≡ true
  meets_from_none cs works found = met_all cs works (all_from_none (is_unmet v) cs found)

  pub first_unmet_from : (cs : List Clause) → position_from (is_unmet v) 0 cs ≡ first_unmet v cs
  first_unmet_from cs = sym (position_from-zero (is_unmet v) cs)
