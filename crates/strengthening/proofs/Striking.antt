-- A literal taken out of its clause in the words: its header counts one less, and the words behind the literal move down. Assumes nothing.
use Rattle.std.proofs.Common.{◌≡◌, ℕ, suc, ◌+◌, ◌-◌, ◌*◌, ◌<◌, ◌≤◌, List, [], ◌∷◌, ◌++◌, length, get_or, take, drop, set, sym, refl, ap, ◌∙◌, subst, ap₂, arith}
use Rattle.std.specs.List.{between, AllByRecursion}
use Rattle.std.proofs.lemmas.List.Edits.{length-between}
use Rattle.std.proofs.lemmas.List.{append_assoc, drop-set, drop-set-lt, length-append, take-set}
use Rattle.std.proofs.lemmas.Bool.{cond-true, cond-false, eq-eqb, ne_eqb, not_from_true, not_from_false}
use Rattle.sheet.specs.declared.clause.Place.{Place}
use Rattle.sheet.specs.Clauses.{Clause, Laid, clauses, clause_words, kind_of, ordinal_of}
use Rattle.sheet.specs.ClauseSteps.{Step, placed}
use Rattle.sheet.specs.Literals.{Rising}
use Rattle.sheet.proofs.Cuts.{between_cons, between_join, cut_back, take_parts}
use Rattle.sheet.proofs.Laying.{clauses_append, clauses_words, laid_append, laid_words}
use Rattle.steps.specs.Rewriting.{is_other, but, lacking}
use Rattle.steps.proofs.Holding.{kept_valid}

-- Ascending words without one of them.

above : (x w : ℕ) (xs ys : List ℕ) → AllByRecursion (λ y. x < y) (xs ++ w ∷ ys) → x < w
above x w [] ys all = all.0
above x w (y ∷ xs) ys all = above x w xs ys all.1

but_above : (w : ℕ) (ys : List ℕ) → AllByRecursion (λ y. w < y) ys → but w ys ≡ ys
but_above w [] all = refl
but_above w (y ∷ ys) all =
    let less = all.0 in
    cond-true (is_other w y) _ _ (not_from_false _ (ne_eqb y w (λ same. omega arith))) ∙ ap (λ zs. y ∷ zs) (but_above w ys all.1)

but_middle : (xs : List ℕ) (w : ℕ) (ys : List ℕ) → Rising (xs ++ w ∷ ys) → but w (xs ++ w ∷ ys) ≡ xs ++ ys
but_middle [] w ys up = cond-false (is_other w w) _ _ (not_from_true _ (eq-eqb w w refl)) ∙ but_above w ys up.0
but_middle (x ∷ xs) w ys up =
    let less = above x w xs ys up.0 in
    cond-true (is_other w x) _ _ (not_from_false _ (ne_eqb x w (λ same. omega arith))) ∙ ap (λ zs. x ∷ zs) (but_middle xs w ys up.1)

-- words with a header written, up to a place behind it, and from such a place on
module _ (s : List ℕ) (at header : ℕ) (inside : at < length s) where
  front_written : (to : ℕ) → at < to → take to (set s at header) ≡ take at s ++ header ∷ between (at + 1) to s
  front_written to past =
      let one : to - at ≡ suc (to - (at + 1)) = omega arith in
      take_parts (set s at header) at to (omega arith)
      ∙ ap₂ (λ (xs ys : List ℕ). xs ++ ys) (take-set s at header) (ap (take (to - at)) (drop-set s at header inside) ∙ ap (λ n. take n (header ∷ drop (at + 1) s)) one)

  back_written : (from to : ℕ) → at < from → between from to (set s at header) ≡ between from to s
  back_written from to past = ap (take (to - from)) (drop-set-lt from s at header past)

module _ (s : List ℕ) (at fill lit : ℕ) (p : Place) (fits : fill ≤ length s) (step : Step s at fill p) (low : p.from ≤ lit) (high : lit < p.to) where
  abbrev lits : List ℕ
  lits = between p.from p.to s

  abbrev struck : Clause
  struck = lacking (get_or s lit 0) (placed s p)

  abbrev rest : List ℕ
  rest = between p.end fill s

  to_fits : p.to ≤ length s
  to_fits = omega (arith, step.inside, step.fits)

  count : length lits ≡ p.to - p.from
  count = length-between s p.from p.to to_fits

  parted : lits ≡ between p.from lit s ++ get_or s lit 0 ∷ between (lit + 1) p.to s
  parted = between_join s p.from lit p.to low (omega arith) ∙ ap (λ ws. between p.from lit s ++ ws) (between_cons s lit p.to 0 high to_fits)

  others : struck.lits ≡ between p.from lit s ++ between (lit + 1) p.to s
  others = ap (but (get_or s lit 0)) parted ∙ but_middle (between p.from lit s) (get_or s lit 0) (between (lit + 1) p.to s) (subst Rising parted step.valid.normal.rising)

  fewer : length struck.lits ≡ p.to - p.from - 1
  fewer =
      let front = length-between s p.from lit (omega (arith, to_fits)) in
      let back = length-between s (lit + 1) p.to to_fits in
      ap length others ∙ simp length-append (omega arith)

  pub few : p.to - p.from - 1 < 4096
  few = omega (arith, step.valid.count, count)

  ordinal : between p.to p.end s ≡ ordinal_of p.tag
  ordinal = cut_back s at p.to p.end ((kind_of p.tag * 4096 + length lits) ∷ lits) (ordinal_of p.tag) step.words (omega (arith, count, step.from, step.order))

  behind : between (lit + 1) fill s ≡ between (lit + 1) p.to s ++ (ordinal_of p.tag ++ rest)
  behind =
      between_join s (lit + 1) p.to fill (omega arith) (omega (arith, step.inside, step.fits))
      ∙ ap (λ ws. between (lit + 1) p.to s ++ ws) (between_join s p.to p.end fill step.inside step.fits ∙ ap (λ ws. ws ++ rest) ordinal)

  -- the header written, and then the words behind the literal moved down
  module _ (front : Laid (take at s)) (slid : List ℕ) (end : ℕ)
      (down : take end slid ≡ take lit (set s at (kind_of p.tag * 4096 + (p.to - p.from - 1))) ++ between (lit + 1) fill (set s at (kind_of p.tag * 4096 + (p.to - p.from - 1)))) where
    abbrev header : ℕ
    header = kind_of p.tag * 4096 + (p.to - p.from - 1)

    begins : at < length s
    begins = omega (arith, step.from, step.order, to_fits)

    words : take end slid ≡ take at s ++ (clause_words struck ++ rest)
    words =
        down
        ∙ ap₂ (λ (xs ys : List ℕ). xs ++ ys) (front_written s at header begins lit (omega (arith, step.from))) (back_written s at header begins (lit + 1) fill (omega (arith, step.from)) ∙ behind)
        ∙ ap (λ n. (take at s ++ header ∷ between n lit s) ++ (between (lit + 1) p.to s ++ (ordinal_of p.tag ++ rest))) (sym step.from)
        ∙ append_assoc (take at s) (header ∷ between p.from lit s) (between (lit + 1) p.to s ++ (ordinal_of p.tag ++ rest))
        ∙ ap (λ ws. take at s ++ header ∷ ws) (sym (append_assoc (between p.from lit s) (between (lit + 1) p.to s) (ordinal_of p.tag ++ rest)) ∙ sym (append_assoc (between p.from lit s ++ between (lit + 1) p.to s) (ordinal_of p.tag) rest))
        ∙ ap₂ (λ (n : ℕ) (ws : List ℕ). take at s ++ ((kind_of p.tag * 4096 + n) ∷ ((ws ++ ordinal_of p.tag) ++ rest))) (sym fewer) (sym others)

    pub laid_struck : Laid (take end slid)
    laid_struck = rw words (laid_append (take at s) (clause_words struck ++ rest) front (laid_append (clause_words struck) rest (laid_words struck (kept_valid (is_other (get_or s lit 0)) (placed s p) step.valid)) step.rest))

    pub clauses_struck : clauses (take end slid) ≡ clauses (take at s) ++ struck ∷ clauses rest
    clauses_struck =
        ap clauses words
        ∙ clauses_append (take at s) (clause_words struck ++ rest) front
        ∙ ap (λ cs. clauses (take at s) ++ cs) (clauses_words struck rest (kept_valid (is_other (get_or s lit 0)) (placed s p) step.valid))
