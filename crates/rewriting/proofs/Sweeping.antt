-- A literal made true in one pass: a cursor that reads, and a mark behind it up to which the rewritten clauses lie. Assumes nothing.
use Rattle.std.proofs.Common.{◌≡◌, ℕ, ◌+◌, ◌-◌, ◌<◌, ◌≤◌, true, List, [], ◌∷◌, ◌++◌, map, length, take, drop, filter, sym, refl, ap, ◌∙◌, arith}
use Rattle.std.specs.List.{between}
use Rattle.std.proofs.lemmas.List.{append_assoc, append-nil, length-append}
use Rattle.std.proofs.lemmas.List.Edits.{length-between}
use Rattle.std.proofs.lemmas.Bool.{cond-true}
use Rattle.sheet.specs.declared.clause.Place.{Place}
use Rattle.sheet.specs.Clauses.{Clause, Valid, Laid, clauses, clause_words, ordinal_of}
use Rattle.sheet.specs.ClauseSteps.{Step, placed}
use Rattle.sheet.specs.Literals.{opposite}
use Rattle.sheet.proofs.Cuts.{between_zero}
use Rattle.sheet.proofs.Cursors.{clauses_end}
use Rattle.sheet.proofs.Laying.{clauses_append, clauses_nil, clauses_one, laid_append, laid_nil, laid_words}
use Rattle.steps.specs.Rewriting.{is_other, lacking, lacks}
use Rattle.steps.specs.Propagation.{propagated}
use Rattle.steps.proofs.Holding.{kept_valid}

-- where a clause ends
pub step_ends : (s : List ℕ) (at fill : ℕ) (p : Place) → fill ≤ length s → Step s at fill p → (p.end ≡ p.to + length (ordinal_of p.tag)) × (p.to < p.from + 4096)
step_ends s at fill p fits step =
    let lits = between p.from p.to s in
    let inside = step.inside in
    let high = step.fits in
    let few = step.valid.count in
    let count : length lits ≡ p.to - p.from = length-between s p.from p.to (omega arith) in
    let all : length (between at p.end s) ≡ p.end - at = length-between s at p.end (omega arith) in
    let words = ap length step.words in
    let parts = length-append lits (ordinal_of p.tag) in
    let from = step.from in
    let order = step.order in
    (omega arith, omega arith)

-- `cur` holds up to `out` what has become of the clauses of s before `at`, and from `at` on what s holds there
pub record Sweeping (w : ℕ) (s : List ℕ) (fill : ℕ) (cur : List ℕ) (out at : ℕ) : Type 0 where
  pub long : length cur ≡ length s
  pub low : out ≤ at
  pub high : at ≤ fill
  pub front : Laid (take out cur)
  pub ahead : Laid (between at fill cur)
  pub swept : clauses (take out cur) ++ propagated w (clauses (between at fill cur)) ≡ propagated w (clauses (take fill s))

pub sweeping_none : (w : ℕ) (s : List ℕ) (fill : ℕ) → Laid (take fill s) → Sweeping w s fill s 0 0
sweeping_none w s fill laid =
    let start = between_zero s fill in
    record {
      long = refl;
      low = omega arith;
      high = omega arith;
      front = laid_nil;
      ahead = rw start laid;
      swept = ap (λ cs. cs ++ propagated w (clauses (between 0 fill s))) clauses_nil ∙ ap (λ ws. propagated w (clauses ws)) start;
    }

module _ {w : ℕ} {s : List ℕ} {fill : ℕ} {cur : List ℕ} {out at : ℕ} (h : Sweeping w s fill cur out at) where
  module _ {p : Place} (step : Step cur at fill p) where
    abbrev c : Clause
    c = placed cur p

    abbrev later : List Clause
    later = clauses (between p.end fill cur)

    -- a clause without the literal moves down, without its denial
    pub sweeping_moved : lacks w (placed cur p) ≡ true → (cur' : List ℕ) (out' : ℕ) → length cur' ≡ length cur → out' ≤ p.end
        → take out' cur' ≡ take out cur ++ clause_words (lacking (opposite w) (placed cur p)) → drop p.end cur' ≡ drop p.end cur → Sweeping w s fill cur' out' p.end
    sweeping_moved stays cur' out' long low front behind =
        let new : Clause = lacking (opposite w) c in
        let valid : Valid new = kept_valid (is_other (opposite w)) c step.valid in
        let same : between p.end fill cur' ≡ between p.end fill cur = ap (take (fill - p.end)) behind in
        let kept : clauses (take out' cur') ≡ clauses (take out cur) ++ new ∷ [] =
        ap clauses front ∙ clauses_append (take out cur) (clause_words new) h.front ∙ ap (λ cs. clauses (take out cur) ++ cs) (clauses_one new valid) in
        record {
          long = long ∙ h.long;
          low = low;
          high = step.fits;
          front = rw front (laid_append (take out cur) (clause_words new) h.front (laid_words new valid));
          ahead = rw same step.rest;
          swept =
              ap (λ cs. cs ++ propagated w (clauses (between p.end fill cur'))) kept
              ∙ ap (λ ws. (clauses (take out cur) ++ new ∷ []) ++ propagated w (clauses ws)) same
              ∙ append_assoc (clauses (take out cur)) (new ∷ []) (propagated w later)
              ∙ ap (λ cs. clauses (take out cur) ++ cs)
              (sym (ap (map (lacking (opposite w))) (cond-true (lacks w c) (c ∷ filter (lacks w) later) (filter (lacks w) later) stays)) ∙ ap (propagated w) (sym step.here))
              ∙ h.swept;
        }

  pub sweeping_all : fill ≤ at → clauses (take out cur) ≡ propagated w (clauses (take fill s))
  sweeping_all past = sym (append-nil (clauses (take out cur))) ∙ ap (λ cs. clauses (take out cur) ++ propagated w cs) (sym (clauses_end cur at fill past)) ∙ h.swept
