-- A cursor over clauses: the words before it and behind it, and its move by one clause. Assumes nothing.
use Rattle.std.proofs.Common.{◌≡◌, ℕ, ◌≤◌, List, [], ◌∷◌, ◌++◌, take, ap, ◌∙◌, arith}
use Rattle.std.specs.List.{between}
use Rattle.sheet.specs.declared.clause.Place.{Place}
use Rattle.sheet.specs.Clauses.{Laid, clauses}
use Rattle.sheet.specs.ClauseSteps.{Step, placed}
use Rattle.sheet.proofs.Cuts.{between_end, take_parts}
use Rattle.sheet.proofs.Laying.{clauses_append, clauses_nil, clauses_one, laid_append, laid_behind, laid_words}

-- a boundary parts laid words
module _ (s : List ℕ) (at fill : ℕ) (order : at ≤ fill) (front : Laid (take at s)) where
  pub laid_parts : Laid (between at fill s) → Laid (take fill s)
  laid_parts back = rw (take_parts s at fill order) (laid_append (take at s) (between at fill s) front back)

  pub laid_rest : Laid (take fill s) → Laid (between at fill s)
  laid_rest whole = laid_behind (take at s) (between at fill s) front (rw (take_parts s at fill order) at whole)

  pub clauses_parts : clauses (take fill s) ≡ clauses (take at s) ++ clauses (between at fill s)
  clauses_parts = ap clauses (take_parts s at fill order) ∙ clauses_append (take at s) (between at fill s) front

pub clauses_end : (s : List ℕ) (at fill : ℕ) → fill ≤ at → clauses (between at fill s) ≡ []
clauses_end s at fill past = ap clauses (between_end s at fill past) ∙ clauses_nil

module _ (s : List ℕ) (at fill : ℕ) (p : Place) (step : Step s at fill p) where
  pub laid_step : Laid (between at p.end s)
  laid_step = rw step.words (laid_words (placed s p) step.valid)

  pub clauses_step : clauses (between at p.end s) ≡ placed s p ∷ []
  clauses_step = ap clauses step.words ∙ clauses_one (placed s p) step.valid

  -- the boundary moves on
  module _ (front : Laid (take at s)) where
    pub laid_more : Laid (take p.end s)
    laid_more = laid_parts s at p.end (omega arith) front laid_step

    pub clauses_more : clauses (take p.end s) ≡ clauses (take at s) ++ placed s p ∷ []
    clauses_more = clauses_parts s at p.end (omega arith) front ∙ ap (λ cs. clauses (take at s) ++ cs) clauses_step
