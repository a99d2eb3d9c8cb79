-- The step on a sheet, by the first place in the words of its clauses, and what a step leaves. Assumes nothing.
use Rattle.std.proofs.Common.{◌≡◌, ℕ, ◌+◌, min, Bool, true, List, ◌∷◌, ◌++◌, length, get_or, take, Some, None, Option, MatchOption, sym, refl, ap, ◌∙◌, arith}
use Rattle.std.specs.Option.{option_map}
use Rattle.std.specs.List.{between}
use Rattle.weight.specs.declared.kind.Weight.{Ghosts}
use Rattle.sheet.specs.Clauses.{Clause, Laid, clauses}
use Rattle.sheet.specs.ClauseSteps.{placed}
use Rattle.sheet.specs.Together.{HoldsTogether}
use Rattle.sheet.specs.declared.buffers.Phase.TheVariants.{Working as at_work}
use Rattle.sheet.specs.Sheets.{Sheet, Lent, decoded, used_clauses, used_row}
use Rattle.steps.specs.Rewriting.{lacking, with_clauses}
use Rattle.steps.specs.Strengthening.{strengthening}
use Rattle.rules.proofs.Holding.{framed}
use Rattle.rules.specs.Stepping.{IsThere, StepAnswered}
use Rattle.places.specs.declared.Found.{Found}
use Rattle.places.specs.Spots.{FoundIn, Spot, first_spot, SpotAt}
use Rattle.places.proofs.Making.{first_made_lem}
use Rattle.strengthening.specs.Leaving.{leaves, yielded}

module _ {V : Type 0} (s : Sheet V) where
  abbrev pub without : Spot → List Clause
  without p = p.before ++ lacking p.word p.clause ∷ p.rest

  pub step_first : (o : Option Spot) → first_spot (leaves s.row s.clauses) s.clauses ≡ o → strengthening s ≡ option_map (with_clauses s) (option_map without o)
  unfolding strengthening yielded
  step_first o first = ap (option_map (with_clauses s)) (first_made_lem (leaves s.row s.clauses) without s.clauses ∙ ap (option_map without) first)

module _ {W : Type 0} (m : Ghosts W) (b : Lent W) where
  abbrev test : List ℕ → ℕ → Bool
  test = leaves (used_row b) (used_clauses b)

  none_left : first_spot test (used_clauses b) ≡ None → strengthening (decoded m b) ≡ None
  unfolding decoded
  none_left none = step_first (decoded m b) None none

  -- the clauses once the literal is taken out
  abbrev left : Found → List Clause
  left p = clauses (take p.at b.sheet) ++ lacking (get_or b.sheet p.literal 0) (placed b.sheet p.place) ∷ clauses (between p.place.end b.marks.sheet b.sheet)

  one_left : (p : Found) → SpotAt test b.sheet b.marks.sheet p → strengthening (decoded m b) ≡ Some (with_clauses (decoded m b) (left p))
  unfolding decoded
  one_left p found = step_first (decoded m b) _ found.first

  -- what the search answers
  pub leaving_found : (o : Option Found) → FoundIn leaves b o → MatchOption o (strengthening (decoded m b) ≡ None) (λ p. SpotAt test b.sheet b.marks.sheet p × IsThere strengthening (decoded m b))
  leaving_found None none = none_left none
  leaving_found (Some p) found = (found, (with_clauses (decoded m b) (left p), one_left p found))

  -- the literal was taken out
  pub struck : HoldsTogether m at_work b → (p : Found) → SpotAt test b.sheet b.marks.sheet p → (sheet : List ℕ) (end : ℕ) → length sheet ≡ length b.sheet → end + 1 ≡ b.marks.sheet → Laid (take end sheet) → clauses (take end sheet) ≡ left p
      → StepAnswered m strengthening (λ room t. true) b (record { sheet = sheet; row = b.row; stack = b.stack; weights = b.weights; marks = record { sheet = end; stack = b.marks.stack }; counts = b.counts }) true
  unfolding decoded
  struck together p found sheet end long less laid struck' =
      let frame = framed m b together in
      let bound = frame.sheet.bound in
      let fits = frame.sheet.length in (
        one_left p found ∙ ap (λ cs. Some (with_clauses (decoded m b) cs)) (sym struck'),
        refl,
        record { sheet = record { bound = omega arith; length = omega arith }; laid = laid; row = frame.row; stack = frame.stack; stacked = frame.stacked; weights = frame.weights },
        record { counts = refl; room = ap (λ n. record { sheet = min n 32768; stack = min (length b.stack) 32768 }) long; behind = refl },
      )
