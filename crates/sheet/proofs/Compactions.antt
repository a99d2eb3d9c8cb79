-- The compaction: a cursor that reads, and a mark behind it up to which the kept clauses lie. Assumes nothing.
use Rattle.std.proofs.Common.{◌≡◌, ℕ, ◌+◌, ◌-◌, ◌≤◌, Bool, true, List, [], ◌∷◌, ◌++◌, take, drop, filter, sym, refl, ap, ◌∙◌, arith}
use Rattle.std.specs.List.{between}
use Rattle.std.proofs.lemmas.List.{append_assoc, append-nil}
use Rattle.std.proofs.lemmas.Bool.{cond-true}
use Rattle.sheet.specs.declared.clause.Place.{Place}
use Rattle.sheet.specs.Clauses.{Clause, Laid, clauses}
use Rattle.sheet.specs.ClauseSteps.{Step, placed}
use Rattle.sheet.proofs.Cuts.{between_zero, drop_later}
use Rattle.sheet.proofs.Cursors.{clauses_end, clauses_step, laid_step}
use Rattle.sheet.proofs.Laying.{clauses_append, clauses_nil, laid_append, laid_nil}

-- `cur` holds up to `out` what is kept of the clauses of s before `at`, and from `at` on what s holds there
pub record Compacting (s : List ℕ) (fill : ℕ) (cur : List ℕ) (out at : ℕ) : Type 0 where
  pub low : out ≤ at
  pub high : at ≤ fill
  pub front : Laid (take out cur)
  pub ahead : Laid (between at fill cur)
  pub behind : drop fill cur ≡ drop fill s

-- those kept are the ones that pass
abbrev pub Kept : (Clause → Bool) → List ℕ → ℕ → List ℕ → ℕ → ℕ → Type 0
Kept keep s fill cur out at = clauses (take out cur) ++ filter keep (clauses (between at fill cur)) ≡ filter keep (clauses (take fill s))

module _ (s : List ℕ) (fill : ℕ) where
  abbrev start : between 0 fill s ≡ take fill s
  start = between_zero s fill

  pub compacting_none : Laid (take fill s) → Compacting s fill s 0 0
  compacting_none laid = record { low = omega arith; high = omega arith; front = laid_nil; ahead = rw start laid; behind = refl }

  pub kept_none : (keep : Clause → Bool) → Kept keep s fill s 0 0
  kept_none keep = ap (λ cs. cs ++ filter keep (clauses (between 0 fill s))) clauses_nil ∙ ap (λ ws. filter keep (clauses ws)) start

module _ {s : List ℕ} {fill : ℕ} {cur : List ℕ} {out at : ℕ} (h : Compacting s fill cur out at) where
  module _ {p : Place} (step : Step cur at fill p) where
    -- a clause that stays moves down
    module _ (cur' : List ℕ) (out' : ℕ) (size : out' ≡ out + (p.end - at)) (front : take out' cur' ≡ take out cur ++ between at p.end cur) (behind : drop p.end cur' ≡ drop p.end cur) where
      same : between p.end fill cur' ≡ between p.end fill cur
      same = ap (take (fill - p.end)) behind

      pub compacting_kept : Compacting s fill cur' out' p.end
      compacting_kept = record {
        low = omega (arith, size, h.low, step.from, step.order, step.inside);
        high = step.fits;
        front = rw front (laid_append (take out cur) (between at p.end cur) h.front (laid_step cur at fill p step));
        ahead = rw same step.rest;
        behind = drop_later cur' cur p.end fill step.fits behind ∙ h.behind;
      }

      pub kept_kept : (keep : Clause → Bool) → keep (placed cur p) ≡ true → Kept keep s fill cur out at → Kept keep s fill cur' out' p.end
      kept_kept keep stays kept =
          let later = filter keep (clauses (between p.end fill cur)) in
          ap (λ ws. clauses ws ++ filter keep (clauses (between p.end fill cur'))) front
          ∙ ap (λ ws. clauses (take out cur ++ between at p.end cur) ++ filter keep (clauses ws)) same
          ∙ ap (λ cs. cs ++ later) (clauses_append (take out cur) (between at p.end cur) h.front ∙ ap (λ cs. clauses (take out cur) ++ cs) (clauses_step cur at fill p step))
          ∙ append_assoc (clauses (take out cur)) (placed cur p ∷ []) later
          ∙ ap (λ cs. clauses (take out cur) ++ cs) (sym (cond-true (keep (placed cur p)) (placed cur p ∷ later) later stays) ∙ ap (filter keep) (sym step.here))
          ∙ kept

  pub kept_all : (keep : Clause → Bool) → fill ≤ at → Kept keep s fill cur out at → clauses (take out cur) ≡ filter keep (clauses (take fill s))
  kept_all keep past kept = sym (append-nil (clauses (take out cur))) ∙ ap (λ cs. clauses (take out cur) ++ filter keep cs) (sym (clauses_end cur at fill past)) ∙ kept
