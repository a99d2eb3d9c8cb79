-- How often the literals of a clause name an item: once, or not at all. Assumes nothing.
use Rattle.std.proofs.Common.{◌≡◌, ℕ, suc, ◌+◌, ◌-◌, ◌<◌, Bool, true, false, cond, ◌||◌, eqb, leb, List, [], ◌∷◌, refl, ap, ◌∙◌, arith}
use Rattle.std.specs.List.{AllByRecursion}
use Rattle.std.proofs.ByRecursion.{All-weaker}
use Rattle.std.proofs.lemmas.Bool.{cond_both, cond-false, eqb-true, ne_eqb, eqb-false, or_from, or_parts, leb-true, leb-false}
use Rattle.sheet.specs.Literals.{item_of, opposite, has, Normal, Literal}
use Rattle.meaning.specs.Calls.{names}
use Rattle.closing.specs.Surveys.{namings}

-- two words of one item are equal or opposite
apart : (v w : ℕ) → v < 65536 → w < 65536 → v < w → (w ≡ opposite v → ⊥) → item_of v ≡ item_of w → ⊥
apart v w p q lt ne e =
    cond_both (leb 32768 v) (v - 32768) (v + 32768) (λ z. (w ≡ z → ⊥) → ⊥)
    (λ t f. let m = leb-true 32768 v t in omega arith)
    (λ t f. let m = leb-false 32768 v t in f (omega arith)) ne

names_none : (i : ℕ) (ws : List ℕ) → AllByRecursion (λ w. i ≡ item_of w → ⊥) ws → names i ws ≡ false
names_none i [] h = refl
names_none i (x ∷ xs) h = or_from (eqb i (item_of x)) _ (ne_eqb i (item_of x) h.0) (names_none i xs h.1)

namings_none : (i : ℕ) (ws : List ℕ) → names i ws ≡ false → namings i ws ≡ 0
namings_none i [] h = refl
namings_none i (x ∷ xs) h =
    let p = or_parts (eqb i (item_of x)) (names i xs) h in
    cond-false (eqb i (item_of x)) _ _ p.0 ∙ namings_none i xs p.1

not_has : (v : ℕ) (ws : List ℕ) → has v ws ≡ false → AllByRecursion (λ w. w ≡ v → ⊥) ws
not_has v [] h = tt
not_has v (x ∷ xs) h = let p = or_parts (eqb x v) (has v xs) h in (eqb-false x v p.0, not_has v xs p.1)

-- no other literal has the first one's item
others : (n x : ℕ) (ws : List ℕ) → Literal n x → AllByRecursion (Literal n) ws → AllByRecursion (λ w. x < w) ws → AllByRecursion (λ w. w ≡ opposite x → ⊥) ws → AllByRecursion (λ w. item_of x ≡ item_of w → ⊥) ws
others n x [] l lits r h = tt
others n x (w ∷ ws) l lits r h = (apart x w l.word lits.0.word r.0 h.0, others n x ws l lits.1 r.1 h.1)

normal_tail : (x : ℕ) (xs : List ℕ) → Normal (x ∷ xs) → Normal xs
normal_tail x xs h = record {
  rising = h.rising.1;
  one_sign = All-weaker (λ w. has (opposite w) (x ∷ xs) ≡ false) (λ w. has (opposite w) xs ≡ false) (λ w e. (or_parts (eqb x (opposite w)) (has (opposite w) xs) e).1) xs h.one_sign.1;
}

pub namings_normal : (n i : ℕ) (ws : List ℕ) → AllByRecursion (Literal n) ws → Normal ws → namings i ws ≡ cond (names i ws) 1 0
namings_normal n i [] lits h = refl
namings_normal n i (x ∷ xs) lits h = split (eqb i (item_of x)) refl (namings_normal n i xs lits.1 (normal_tail x xs h))
  where
    split : (b : Bool) → eqb i (item_of x) ≡ b → namings i xs ≡ cond (names i xs) 1 0 → cond b (suc (namings i xs)) (namings i xs) ≡ cond (b || names i xs) 1 0
    split true e _ =
        let o = (or_parts (eqb x (opposite x)) (has (opposite x) xs) h.one_sign.0).1 in
        let d = others n x xs lits.0 lits.1 h.rising.0 (not_has (opposite x) xs o) in
        let s = eqb-true i (item_of x) e in
        ap suc (namings_none i xs (rw s (names_none (item_of x) xs d)))
    split false e tail = tail
