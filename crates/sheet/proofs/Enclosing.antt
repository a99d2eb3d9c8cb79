-- Words with a header written in front of literals, and an ordinal behind them. Assumes nothing.
use Rattle.std.proofs.Common.{◌≡◌, ℕ, ◌+◌, ◌-◌, ◌*◌, ◌<◌, ◌≤◌, List, [], ◌∷◌, ◌++◌, length, take, set, sym, refl, ap, ◌∙◌, ap₂, add-zero, arith}
use Rattle.std.specs.List.{between}
use Rattle.std.proofs.lemmas.List.{append_assoc, append-nil, drop-set-lt, get_or-set_same, length-set, take_more_set, take-set}
use Rattle.std.proofs.lemmas.List.Edits.{length-between}
use Rattle.sheet.specs.declared.clause.Tag.{Tag}
use Rattle.sheet.specs.declared.clause.Tag.TheVariants.{Hard, Soft, Working}
use Rattle.sheet.specs.Clauses.{kind_of, ordinal_of, clause_words}
use Rattle.sheet.specs.ClauseSteps.{with_ordinal}
use Rattle.sheet.proofs.Cuts.{between_cons, take_parts}

module _ (s : List ℕ) (at count : ℕ) (fits : at + 1 + count ≤ length s) where
  abbrev lits : List ℕ
  lits = between (at + 1) (at + 1 + count) s

  headed : (h : ℕ) → take (at + 1 + count) (set s at h) ≡ take at s ++ (h ∷ lits)
  headed h =
      let end = at + 1 + count in
      let long = length-set s at h in
      take_parts (set s at h) at end (omega arith)
      ∙ ap₂ (λ (front back : List ℕ). front ++ back) (take-set s at h)
      (between_cons (set s at h) at end 0 (omega arith) (omega arith)
      ∙ ap₂ (λ (x : ℕ) (back : List ℕ). x ∷ back) (get_or-set_same s at h 0 (omega arith)) (ap (take (end - (at + 1))) (drop-set-lt (at + 1) s at h (omega arith))))

  module _ (t : Tag) where
    header : kind_of t * 4096 + count ≡ kind_of t * 4096 + length lits
    header = ap (λ n. kind_of t * 4096 + n) (let long = length-between s (at + 1) (at + 1 + count) fits in omega arith)

    enclosed_plain : ordinal_of t ≡ [] → take (at + 1 + count) (set s at (kind_of t * 4096 + count)) ≡ take at s ++ clause_words (record { tag = t; lits = lits })
    enclosed_plain none =
        headed (kind_of t * 4096 + count)
        ∙ ap₂ (λ (h : ℕ) (ws : List ℕ). take at s ++ (h ∷ ws)) header (sym (append-nil lits) ∙ ap (λ o. lits ++ o) (sym none))

  enclosed_soft : (n : ℕ) → at + 1 + count < length s → take (at + 1 + count + 1) (set (set s at (2 * 4096 + count)) (at + 1 + count) n) ≡ take at s ++ clause_words (record { tag = Soft n; lits = lits })
  enclosed_soft n room =
      let h = 2 * 4096 + count in
      let long = length-set s at h in
      take_more_set (set s at h) (at + 1 + count) n (omega arith)
      ∙ ap (λ ws. ws ++ (n ∷ [])) (headed h)
      ∙ append_assoc (take at s) (h ∷ lits) (n ∷ [])
      ∙ ap (λ x. take at s ++ (x ∷ (lits ++ (n ∷ [])))) (header (Soft n))

pub enclosed : (s : List ℕ) (at count : ℕ) (t : Tag) → at + 1 + count + length (ordinal_of t) ≤ length s
    → take (at + 1 + count + length (ordinal_of t)) (with_ordinal (set s at (kind_of t * 4096 + count)) (at + 1 + count) t)
    ≡ take at s ++ clause_words (record { tag = t; lits = between (at + 1) (at + 1 + count) s })
enclosed s at count Hard room = rw add-zero (enclosed_plain s at count (omega arith) Hard refl)
enclosed s at count (Soft n) room = enclosed_soft s at count (omega arith) n (omega arith)
enclosed s at count Working room = rw add-zero (enclosed_plain s at count (omega arith) Working refl)
