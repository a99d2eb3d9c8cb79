-- A search over literals, by the position that it answers, and one over clauses, by a cursor: what is left of the search is the whole of it. Assumes nothing.
use Rattle.std.proofs.Common.{◌≡◌, ℕ, suc, not, ◌+◌, ◌<◌, ◌≤◌, Bool, true, false, List, [], ◌∷◌, ◌++◌, cond, ltb, refl, length, get_or, take, Some, None, Option, sym, ap, ◌∙◌, arith}
use Prim.Native.Nat.compare.{suc-suc}
use Rattle.std.specs.Option.{option_map, option_or}
use Rattle.std.specs.List.{between, position_or_len}
use Rattle.std.proofs.lemmas.List.Edits.{get_or-between, length-between}
use Rattle.std.proofs.lemmas.Bool.{cond_both, cond-true, cond-false, lt-ltb, ltb-true}
use Rattle.sheet.specs.declared.clause.Place.{Place}
use Rattle.sheet.specs.Clauses.{Clause, Laid, clauses}
use Rattle.sheet.specs.ClauseSteps.{Step, placed}
use Rattle.sheet.proofs.Cuts.{between_zero}
use Rattle.sheet.proofs.Cursors.{clauses_end, clauses_more, laid_more}
use Rattle.sheet.proofs.Laying.{clauses_nil, laid_nil}
use Rattle.steps.specs.Places.{first_made, first_word}
use Rattle.places.specs.Spots.{spot, spotted, first_spot, WordFound, SpotAt}

-- The first literal that passes, by its position.

place_of : (test : ℕ → Bool) (ws : List ℕ) → first_word test ws ≡ cond (ltb (position_or_len test ws) (length ws)) (Some (get_or ws (position_or_len test ws) 0)) None
place_of test [] = refl
place_of test (w ∷ ws) = one (test w) (position_or_len test ws) (place_of test ws)
  where
    one : (passes : Bool) (p : ℕ) {rest : Option ℕ} → rest ≡ cond (ltb p (length ws)) (Some (get_or ws p 0)) None
        → cond passes (Some w) rest ≡ cond (ltb (cond (not passes) (1 + p) 0) (suc (length ws))) (Some (get_or (w ∷ ws) (cond (not passes) (1 + p) 0) 0)) None
    one true p later = sym (cond-true (ltb 0 (suc (length ws))) _ _ (lt-ltb 0 (suc (length ws)) (omega arith)))
    one false p later = let next : 1 + p ≡ suc p = omega arith in rw (next, suc-suc) later

pub word_found : (test : ℕ → Bool) (ws : List ℕ) (o : Option ℕ) → o ≡ cond (ltb (position_or_len test ws) (length ws)) (Some (position_or_len test ws)) None → WordFound test ws o
word_found test ws o is =
    let p = position_or_len test ws in
    rw is (cond_both (ltb p (length ws)) (Some p) None (WordFound test ws) (λ yes. (ltb-true _ _ yes, place_of test ws ∙ cond-true _ _ _ yes)) (λ no. place_of test ws ∙ cond-false _ _ _ no))

-- the clauses up to `at` have no place
pub record Searching (test : List ℕ → ℕ → Bool) (s : List ℕ) (fill at : ℕ) : Type 0 where
  pub order : at ≤ fill
  pub front : Laid (take at s)
  pub ahead : Laid (between at fill s)
  pub left : first_made (spotted test) (clauses (take at s)) (clauses (between at fill s)) ≡ first_spot test (clauses (take fill s))

pub searching_none : (test : List ℕ → ℕ → Bool) (s : List ℕ) (fill : ℕ) → Laid (take fill s) → Searching test s fill 0
searching_none test s fill laid =
    let start = between_zero s fill in
    record {
      order = omega arith;
      front = laid_nil;
      ahead = rw start laid;
      left = ap (λ cs. first_made (spotted test) cs (clauses (between 0 fill s))) clauses_nil ∙ ap (λ ws. first_spot test (clauses ws)) start;
    }

module _ {test : List ℕ → ℕ → Bool} {s : List ℕ} {fill at : ℕ} (h : Searching test s fill at) where
  pub searching_done : fill ≤ at → first_spot test (clauses (take fill s)) ≡ None
  searching_done past = sym h.left ∙ ap (first_made (spotted test) (clauses (take at s))) (clauses_end s at fill past)

  module _ {p : Place} (step : Step s at fill p) where
    abbrev lits : List ℕ
    lits = between p.from p.to s

    abbrev later : List Clause
    later = clauses (between p.end fill s)

    here_first : (o : Option ℕ) → first_word (test lits) lits ≡ o
        → option_or (option_map (spot (clauses (take at s)) (placed s p) later) o) (first_made (spotted test) (clauses (take at s) ++ placed s p ∷ []) later) ≡ first_spot test (clauses (take fill s))
    here_first o is =
        ap (λ w. option_or (option_map (spot (clauses (take at s)) (placed s p) later) w) (first_made (spotted test) (clauses (take at s) ++ placed s p ∷ []) later)) (sym is)
        ∙ ap (first_made (spotted test) (clauses (take at s))) (sym step.here)
        ∙ h.left

    pub searching_more : first_word (test lits) lits ≡ None → Searching test s fill p.end
    searching_more none = record {
      order = step.fits;
      front = laid_more s at fill p step h.front;
      ahead = step.rest;
      left = ap (λ cs. first_made (spotted test) cs later) (clauses_more s at fill p step h.front) ∙ here_first None none;
    }

    pub searching_inside : fill ≤ length s → (i : ℕ) → i < length lits → p.from + i < p.to
    searching_inside fits i inside = omega (arith, length-between s p.from p.to (omega (arith, step.inside, step.fits)), step.order)

    pub searching_here : fill ≤ length s → (i : ℕ) → WordFound (test lits) lits (Some i) → SpotAt test s fill (record { at = at; place = p; literal = p.from + i })
    searching_here fits i found =
        let inside = searching_inside fits i found.0 in
        record {
          front = h.front;
          step = step;
          low = omega arith;
          high = inside;
          first = sym (here_first (Some (get_or lits i 0)) found.1) ∙ ap (λ w. Some (spot (clauses (take at s)) (placed s p) later w)) (get_or-between s p.from p.to i 0 inside);
        }
