-- What a header says of laid words that it begins, and back. Assumes nothing.
use Rattle.std.proofs.Common.{◌≡◌, ℕ, zero, suc, ◌+◌, ◌*◌, ◌/◌, ◌%◌, ◌≤◌, List, [], ◌∷◌, ◌++◌, length, get_or, take, drop, sym, refl, ap, ap₂, add-zero, ◌∙◌, subst, arith}
use Rattle.std.proofs.lemmas.List.{append-nil, length-append, length-take-le, take-append-drop, take_at, take_more, take-take}
use Rattle.sheet.specs.Literals.{Normal}
use Rattle.sheet.specs.Clauses.{Clause, Tag, Hard, Soft, Working, Laid, Valid, behind, clause_words, encode, kind_of, ordinal_of}
use Rattle.sheet.proofs.Laying.{Ordinal, behind_kind, body, laid_append, laid_encode, laid_words, opened, rest, size}

-- The words behind a header that begins laid words.
pub record Headed (h : ℕ) (ws : List ℕ) : Type 0 where
  pub fits : behind h ≤ length ws
  pub kind : (1 ≤ h / 4096) × (h / 4096 ≤ 3)
  pub normal : Normal (take (h % 4096) (take (behind h) ws))
  pub rest : Laid (drop (behind h) ws)

abbrev HeadedFront : List ℕ → Type 0
HeadedFront [] = Unit {0}
HeadedFront (h ∷ ws) = Headed h ws

kind_range : (t : Tag) → (1 ≤ kind_of t) × (kind_of t ≤ 3)
kind_range Hard = (omega arith, omega arith)
kind_range (Soft n) = (omega arith, omega arith)
kind_range Working = (omega arith, omega arith)

written : (c : Clause) (ws : List ℕ) → Valid c → Laid ws → HeadedFront (clause_words c ++ ws)
written c ws v laid =
    let range = kind_range c.tag in
    let count : (kind_of c.tag * 4096 + length c.lits) % 4096 ≡ length c.lits = omega (arith, v.count) in
    record {
      fits = omega (arith, size c ws v, length-append (c.lits ++ ordinal_of c.tag) ws);
      kind = (omega (arith, range.0, v.count), omega (arith, range.1, v.count));
      normal = rw (body c ws v) (rw (take_at c.lits (ordinal_of c.tag) _ (sym count)) v.normal);
      rest = rw (rest c ws v) laid;
    }

pub headed : (h : ℕ) (ws : List ℕ) → Laid (h ∷ ws) → Headed h ws
headed h ws laid =
    let o = opened (h ∷ ws) laid (omega arith) in
    subst HeadedFront (sym o.words) (written o.first (encode o.others) o.valid (laid_encode o.others o.all))

-- The way back.

tag_for : (k n : ℕ) → 1 ≤ k → k ≤ 3 → (t : Tag) × (k ≡ kind_of t) × Ordinal t n
tag_for zero n low high = absurd (omega arith)
tag_for (suc zero) n low high = (Hard, refl, λ some. absurd (omega arith))
tag_for (suc (suc zero)) n low high = (Soft n, refl, λ some. refl)
tag_for (suc (suc (suc zero))) n low high = (Working, refl, λ some. absurd (omega arith))
tag_for (suc (suc (suc (suc k)))) n low high = absurd (omega arith)

ordinal_taken : (t : Tag) (k : ℕ) (ws : List ℕ) → k + length (ordinal_of t) ≤ length ws → Ordinal t (get_or ws k 0) → take (k + length (ordinal_of t)) ws ≡ take k ws ++ ordinal_of t
ordinal_taken Hard k ws fits is = simp (add-zero, append-nil)
ordinal_taken (Soft n) k ws fits is = take_more ws k 0 (omega arith) ∙ ap (λ m. take k ws ++ m ∷ []) (is (omega arith))
ordinal_taken Working k ws fits is = simp (add-zero, append-nil)

pub laid_headed : (h : ℕ) (ws : List ℕ) → Headed h ws → Laid (h ∷ ws)
laid_headed h ws p =
    let found = tag_for (h / 4096) (get_or ws (h % 4096) 0) p.kind.0 p.kind.1 in
    let counted = behind_kind found.0 h found.1 in
    let lits = take (h % 4096) ws in
    let same : take (h % 4096) (take (behind h) ws) ≡ lits = take-take (h % 4096) (behind h) ws (omega (arith, counted)) in
    let c : Clause = record { tag = found.0; lits = lits } in
    let long : length lits ≡ h % 4096 = length-take-le (h % 4096) ws (omega (arith, counted, p.fits)) in
    let front : take (behind h) ws ≡ lits ++ ordinal_of found.0 = ap (λ n. take n ws) counted ∙ ordinal_taken found.0 (h % 4096) ws (omega (arith, counted, p.fits)) found.2 in
    let words : clause_words c ++ drop (behind h) ws ≡ h ∷ ws =
    ap₂ (λ (n : ℕ) (vs : List ℕ). n ∷ vs) (omega (arith, long, found.1)) (ap (λ vs. vs ++ drop (behind h) ws) (sym front) ∙ take-append-drop (behind h) ws) in
    subst (λ vs. Laid vs) words (laid_append (clause_words c) (drop (behind h) ws) (laid_words c (record { count = omega (arith, long); normal = subst Normal same p.normal })) p.rest)
