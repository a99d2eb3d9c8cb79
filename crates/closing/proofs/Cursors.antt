-- A cursor over the clauses of a sheet whose literals name the items 1 to n. Assumes nothing.
use Rattle.std.proofs.Common.{◌≡◌, ℕ, ◌≤◌, List, ◌∷◌, take, subst, arith}
use Rattle.std.specs.List.{between, AllByRecursion}
use Rattle.sheet.specs.declared.clause.Place.{Place}
use Rattle.sheet.specs.Literals.{Literal}
use Rattle.sheet.specs.Clauses.{Laid, clauses}
use Rattle.sheet.specs.ClauseSteps.{Step, placed}
use Rattle.sheet.proofs.Cuts.{between_zero}
use Rattle.closing.specs.Labelling.{Ranged}

-- the clauses from `at` on are still to come
pub record Ahead (n : ℕ) (s : List ℕ) (at fill : ℕ) : Type 0 where
  pub inside : at ≤ fill
  pub laid : Laid (between at fill s)
  pub ranged : Ranged n (clauses (between at fill s))

pub ahead_none : {n : ℕ} (s : List ℕ) (fill : ℕ) → Laid (take fill s) → Ranged n (clauses (take fill s)) → Ahead n s 0 fill
ahead_none s fill laid ranged = record {
  inside = omega arith;
  laid = rw (between_zero s fill) laid;
  ranged = rw (between_zero s fill) ranged;
}

module _ {n : ℕ} {s : List ℕ} {at fill : ℕ} {p : Place} (ahead : Ahead n s at fill) (step : Step s at fill p) where
  both : Ranged n (placed s p ∷ clauses (between p.end fill s))
  both = subst (Ranged n) step.here ahead.ranged

  pub literals_here : AllByRecursion (Literal n) (between p.from p.to s)
  literals_here = both.0

  pub ahead_more : Ahead n s p.end fill
  ahead_more = record { inside = step.fits; laid = step.rest; ranged = both.1 }

pub ahead_same : {n : ℕ} {s s' : List ℕ} {at fill : ℕ} → between at fill s' ≡ between at fill s → Ahead n s at fill → Ahead n s' at fill
ahead_same same ahead = record { inside = ahead.inside; laid = rw same ahead.laid; ranged = rw same ahead.ranged }
