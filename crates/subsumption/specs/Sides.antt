-- Which clauses subsume one, by the side on which they stand. Assumes nothing.
use Rattle.std.specs.Prelude.{ℕ, Bool, not, ◌&&◌, List}
use Rattle.sheet.specs.Clauses.{Clause}
use Rattle.steps.specs.Rewriting.{inside}
use Rattle.subsumption.specs.declared.Side.{Side}
use Rattle.subsumption.specs.declared.Side.TheVariants.{Before, Behind}

-- a clause before these literals has none that they lack, and one behind them besides lacks one of them
abbrev pub subsumes : Side → List ℕ → Clause → Bool
subsumes Before lits d = inside d.lits lits
subsumes Behind lits d = inside d.lits lits && not (inside lits d.lits)
