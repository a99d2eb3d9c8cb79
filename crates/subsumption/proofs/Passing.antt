-- One pass over the clauses: those up to a mark are kept, those from a cursor on are still to come. Assumes nothing.
use Rattle.std.proofs.Common.{◌≡◌, ℕ, ◌+◌, ◌-◌, ◌<◌, ◌≤◌, Bool, true, false, List, [], ◌∷◌, ◌++◌, take, drop, Some, sym, refl, ap, ◌∙◌, ap₂, subst, arith}
use Rattle.std.specs.List.{between}
use Rattle.std.proofs.lemmas.List.{append_assoc, append-nil}
use Rattle.sheet.specs.declared.clause.Place.{Place}
use Rattle.sheet.specs.Clauses.{Clause, Laid, clauses}
use Rattle.sheet.specs.ClauseSteps.{Step, placed}
use Rattle.sheet.proofs.Cuts.{between_zero}
use Rattle.sheet.proofs.Cursors.{clauses_end, clauses_step, laid_step}
use Rattle.sheet.proofs.Laying.{clauses_append, clauses_nil, laid_append, laid_nil}
use Rattle.meaning.specs.declared.report.Ending.TheVariants.{Done, Limit}
use Rattle.meaning.specs.Steps.{outcome, repeated_step}
use Rattle.meaning.proofs.Turning.{Turning, turning_none, turning_done, turning_limit, turning_more}
use Rattle.steps.specs.Subsumption.{is_subsumed, subsumed_once}
use Rattle.subsumption.proofs.Removals.{NoneSubsumed, none_without, none_more, once_none, once_here}

-- it takes no words
abbrev pub fits_always : List Clause → Bool
fits_always cs = true

-- a clause looked at among the clauses before it and those behind it
pub looked_at : (c : Clause) {xs before ys later : List Clause} {r is : Bool} → r ≡ is_subsumed xs c ys → xs ≡ before → ys ≡ later → r ≡ is → is_subsumed before c later ≡ is
looked_at c told front behind is = ap₂ (λ (cs ds : List Clause). is_subsumed cs c ds) (sym front) (sym behind) ∙ sym told ∙ is

pub record Passing (s : List ℕ) (fill limit : ℕ) (cur : List ℕ) (out at steps : ℕ) : Type 0 where
  pub low : out ≤ at
  pub high : at ≤ fill
  pub front : Laid (take out cur)
  pub ahead : Laid (between at fill cur)
  pub none : NoneSubsumed [] (clauses (take out cur)) (clauses (between at fill cur))
  pub turning : Turning subsumed_once fits_always limit (clauses (take fill s)) (clauses (take out cur) ++ clauses (between at fill cur)) steps

pub passing_none : (s : List ℕ) (fill limit : ℕ) → Laid (take fill s) → Passing s fill limit s 0 0 0
passing_none s fill limit laid =
    let start = between_zero s fill in
    let same : clauses (take 0 s) ++ clauses (between 0 fill s) ≡ clauses (take fill s) = ap (λ cs. cs ++ clauses (between 0 fill s)) clauses_nil ∙ ap clauses start in
    record {
      low = omega arith;
      high = omega arith;
      front = laid_nil;
      ahead = rw start laid;
      none = subst (λ cs. NoneSubsumed [] cs (clauses (between 0 fill s))) (sym clauses_nil) tt;
      turning = subst (λ cs. Turning subsumed_once fits_always limit (clauses (take fill s)) cs 0) (sym same) (turning_none subsumed_once fits_always limit (clauses (take fill s)));
    }

module _ {s : List ℕ} {fill limit : ℕ} {cur : List ℕ} {out at steps : ℕ} (h : Passing s fill limit cur out at steps) where
  pub passing_done : fill ≤ at → outcome steps Done (clauses (take out cur)) ≡ repeated_step subsumed_once fits_always limit (clauses (take fill s))
  passing_done past =
      let end = clauses_end cur at fill past in
      let all : clauses (take out cur) ++ clauses (between at fill cur) ≡ clauses (take out cur) = ap (λ cs. clauses (take out cur) ++ cs) end ∙ append-nil (clauses (take out cur)) in
      turning_done subsumed_once fits_always (subst (λ cs. Turning subsumed_once fits_always limit (clauses (take fill s)) cs steps) all h.turning)
      (once_none (clauses (take out cur)) [] (subst (NoneSubsumed [] (clauses (take out cur))) end h.none))

  -- the clause at the cursor
  module _ {p : Place} (step : Step cur at fill p) where
    abbrev before : List Clause
    before = clauses (take out cur)

    abbrev later : List Clause
    later = clauses (between p.end fill cur)

    none_here : NoneSubsumed [] before (placed cur p ∷ later)
    none_here = subst (NoneSubsumed [] before) step.here h.none

    -- is subsumed
    module _ (subsumed : is_subsumed before (placed cur p) later ≡ true) where
      once : subsumed_once (before ++ clauses (between at fill cur)) ≡ Some (before ++ later)
      once = ap (λ cs. subsumed_once (before ++ cs)) step.here ∙ once_here before later (placed cur p) none_here subsumed

      pub passing_limit : steps ≡ limit → (cur' : List ℕ) (fill' : ℕ) → take fill' cur' ≡ take out cur ++ between at fill cur
          → Laid (take fill' cur') × (outcome steps Limit (clauses (take fill' cur')) ≡ repeated_step subsumed_once fits_always limit (clauses (take fill s)))
      passing_limit all cur' fill' slid = (
        rw slid (laid_append (take out cur) (between at fill cur) h.front h.ahead),
        ap (λ ws. outcome steps Limit (clauses ws)) slid
            ∙ ap (λ cs. outcome steps Limit cs) (clauses_append (take out cur) (between at fill cur) h.front)
            ∙ turning_limit subsumed_once fits_always h.turning (before ++ later) once all,
      )

      pub passing_dropped : steps < limit → Passing s fill limit cur out p.end (steps + 1)
      passing_dropped less = record {
        low = omega (arith, h.low, step.from, step.order, step.inside);
        high = step.fits;
        front = h.front;
        ahead = step.rest;
        none = none_without [] before (placed cur p) later none_here;
        turning = turning_more subsumed_once fits_always h.turning (before ++ later) once less refl;
      }

    -- is kept, and moves down
    pub passing_kept : is_subsumed before (placed cur p) later ≡ false → (cur' : List ℕ) (out' : ℕ) → out' ≡ out + (p.end - at)
        → take out' cur' ≡ take out cur ++ between at p.end cur → drop p.end cur' ≡ drop p.end cur → Passing s fill limit cur' out' p.end steps
    passing_kept free cur' out' size front behind =
        let same : between p.end fill cur' ≡ between p.end fill cur = ap (take (fill - p.end)) behind in
        let kept : clauses (take out' cur') ≡ before ++ placed cur p ∷ [] = ap clauses front ∙ clauses_append (take out cur) (between at p.end cur) h.front ∙ ap (λ cs. before ++ cs) (clauses_step cur at fill p step) in
        let all : before ++ clauses (between at fill cur) ≡ clauses (take out' cur') ++ clauses (between p.end fill cur') =
        ap (λ cs. before ++ cs) step.here ∙ sym (append_assoc before (placed cur p ∷ []) later)
        ∙ ap (λ cs. cs ++ later) (sym kept) ∙ ap (λ ws. clauses (take out' cur') ++ clauses ws) (sym same) in
        record {
          low = omega (arith, h.low, step.from, step.order, step.inside);
          high = step.fits;
          front = rw front (laid_append (take out cur) (between at p.end cur) h.front (laid_step cur at fill p step));
          ahead = rw same step.rest;
          none = rw (kept, same) (none_more [] before (placed cur p) later none_here free);
          turning = subst (λ cs. Turning subsumed_once fits_always limit (clauses (take fill s)) cs steps) all h.turning;
        }
