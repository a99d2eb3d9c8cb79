-- The flags of a table and the words that they mark. Assumes nothing.
use Rattle.std.proofs.Common.{◌≡◌, ℕ, zero, suc, ◌+◌, ◌<◌, ◌≤◌, Bool, true, false, cond, not, ◌&&◌, ◌||◌, eqb, List, [], ◌∷◌, ◌++◌, length, get_or, take, set, replicate, sym, refl, ap, ap₂, ◌∙◌, inl, inr, arith}
use Rattle.std.specs.List.{AllByRecursion}
use Rattle.std.proofs.lemmas.List.{get_or-set_same, get_or-set_other, take_more}
use Rattle.std.proofs.lemmas.Bool.{both_ways, cases_eq, cond-true, eq-eqb, ne_eqb, or_left, or_right}
use Rattle.std.proofs.lemmas.Bool.Decides.{nat_tests}
use Rattle.std.proofs.Math.Bool.{and-or_distrib_right, or-false}
use Rattle.sheet.specs.Literals.{Rising, has, opposite}
use Rattle.marking.specs.Marks.{flagged_from, flagged, other_denied}
use Rattle.marking.proofs.Rising.{same_from_members}

-- The words that a table marks.

flagged_above : (m n : ℕ) (fs : List Bool) → m < n → AllByRecursion (λ w. m < w) (flagged_from n fs)
flagged_above m n [] less = tt
flagged_above m n (true ∷ fs) less = (less, flagged_above m (suc n) fs (omega arith))
flagged_above m n (false ∷ fs) less = flagged_above m (suc n) fs (omega arith)

flagged_rising : (n : ℕ) (fs : List Bool) → Rising (flagged_from n fs)
flagged_rising n [] = tt
flagged_rising n (true ∷ fs) = (flagged_above n (suc n) fs (omega arith), flagged_rising (suc n) fs)
flagged_rising n (false ∷ fs) = flagged_rising (suc n) fs

lacks_before : (w n : ℕ) (fs : List Bool) → w < n → has w (flagged_from n fs) ≡ false
lacks_before w n [] less = refl
lacks_before w n (true ∷ fs) less = ap (λ b. b || has w (flagged_from (suc n) fs)) (ne_eqb n w (λ same. omega arith)) ∙ lacks_before w (suc n) fs (omega arith)
lacks_before w n (false ∷ fs) less = lacks_before w (suc n) fs (omega arith)

has_from : (w n i : ℕ) (fs : List Bool) → n + i ≡ w → has w (flagged_from n fs) ≡ get_or fs i false
has_from w n i [] at = refl
has_from w n zero (true ∷ fs) at = or_left _ _ (eq-eqb n w (omega arith))
has_from w n zero (false ∷ fs) at = lacks_before w (suc n) fs (omega arith)
has_from w n (suc i) (true ∷ fs) at = ap (λ b. b || has w (flagged_from (suc n) fs)) (ne_eqb n w (λ same. omega arith)) ∙ has_from w (suc n) i fs (omega arith)
has_from w n (suc i) (false ∷ fs) at = has_from w (suc n) i fs (omega arith)

pub has_flagged : (w : ℕ) (table : List Bool) → has w (flagged table) ≡ get_or table w false
unfolding flagged
has_flagged w table = has_from w 0 w table (omega arith)

none_from : (n k : ℕ) → flagged_from n (replicate k false) ≡ []
none_from n zero = refl
none_from n (suc k) = none_from (suc n) k

pub flagged_none : (k : ℕ) → flagged (replicate k false) ≡ []
unfolding flagged
flagged_none k = none_from 0 k

-- known by their flags
pub flagged_is : (table : List Bool) (ws : List ℕ) → Rising ws → ((w : ℕ) → get_or table w false ≡ has w ws) → flagged table ≡ ws
unfolding flagged
flagged_is table ws up same = same_from_members (flagged table) ws (flagged_rising 0 table) up (λ w. has_flagged w table ∙ same w)

-- with the flags of these literals set
module _ (old new : List Bool) (lits : List ℕ) (empty : flagged old ≡ []) (set : (w : ℕ) → get_or new w false ≡ cond (has w lits) true (get_or old w false)) where
  marked : (w : ℕ) → get_or new w false ≡ has w lits
  marked w = set w ∙ ap (cond (has w lits) true) (sym (has_flagged w old) ∙ ap (has w) empty) ∙ itself (has w lits)
    where
      itself : (b : Bool) → cond b true false ≡ b
      itself true = refl
      itself false = refl

  pub has_marked : (w : ℕ) → has w (flagged new) ≡ has w lits
  has_marked w = has_flagged w new ∙ marked w

  pub flagged_marked : Rising lits → flagged new ≡ lits
  flagged_marked up = flagged_is new lits up marked

-- or taken away
module _ (old new : List Bool) (before lits : List ℕ) (is : flagged old ≡ before) (unset : (w : ℕ) → get_or new w false ≡ cond (has w lits) false (get_or old w false)) where
  pub has_unmarked : (w : ℕ) → has w (flagged new) ≡ (has w before && not (has w lits))
  has_unmarked w = has_flagged w new ∙ unset w ∙ ap (cond (has w lits) false) (sym (has_flagged w old) ∙ ap (has w) is) ∙ but (has w lits) (has w before)
    where
      but : (b c : Bool) → cond b false c ≡ (c && not b)
      but true true = refl
      but true false = refl
      but false true = refl
      but false false = refl

-- nothing is left of a list when its members are taken away
nothing : (ws : List ℕ) → ((w : ℕ) → has w ws ≡ false) → ws ≡ []
nothing [] none = refl
nothing (w ∷ ws) none = absurd (both_ways (has w (w ∷ ws)) (none w) (or_left (eqb w w) (has w ws) (eq-eqb w w refl)))

pub none_left : (before after lits : List ℕ) → ((w : ℕ) → has w after ≡ (has w before && not (has w lits))) → ((w : ℕ) → has w before ≡ has w lits) → after ≡ []
none_left before after lits taken all = nothing after (λ w. taken w ∙ ap (λ b. b && not (has w lits)) (all w) ∙ never (has w lits))
  where
    never : (b : Bool) → (b && not b) ≡ false
    never true = refl
    never false = refl

-- Flags that are set one by one.

has_push : (w x : ℕ) (ws : List ℕ) → has w (ws ++ x ∷ []) ≡ (has w ws || eqb x w)
has_push w x [] = grind (arith, nat_tests)
has_push w x (y ∷ ws) = let rest = has_push w x ws in grind (arith, nat_tests)

pub set_more : (before table : List Bool) (flag : Bool) (ws : List ℕ) (i x : ℕ) → i < length ws → x ≡ get_or ws i 0 → x < length table
    → ((w : ℕ) → get_or table w false ≡ cond (has w (take i ws)) flag (get_or before w false))
    → (w : ℕ) → get_or (set table x flag) w false ≡ cond (has w (take (i + 1) ws)) flag (get_or before w false)
set_more before table flag ws i x inside here fits flags w =
    let front = take i ws in
    let old = get_or before w false in
    let more : has w (take (i + 1) ws) ≡ (has w front || eqb x w) = ap (has w) (take_more ws i 0 inside ∙ ap (λ y. front ++ y ∷ []) (sym here)) ∙ has_push w x front in
    elim (cases_eq x w) [
      | inl is ↦ rw (← is) (get_or-set_same table x flag false fits) ∙ sym (cond-true _ flag old (more ∙ or_right (has w front) (eqb x w) (eq-eqb x w is)))
      | inr other ↦
          get_or-set_other table x w flag false (λ same. other (sym same)) ∙ flags w
          ∙ ap (λ b. cond b flag old) (sym (more ∙ ap (λ b. has w front || b) (ne_eqb x w other) ∙ or-false (has w front)))
    ]

-- What denies a marked literal is the denial of it.

pub flagged_words : (n : ℕ) (fs : List Bool) → n + length fs ≤ 65536 → AllByRecursion (λ w. w < 65536) (flagged_from n fs)
flagged_words n [] few = tt
flagged_words n (true ∷ fs) few = (omega arith, flagged_words (suc n) fs (omega arith))
flagged_words n (false ∷ fs) few = flagged_words (suc n) fs (omega arith)

module _ (x y : ℕ) (x-word : x < 65536) (y-word : y < 65536) where
  one_denied : (z : ℕ) → z < 65536 → (eqb z (opposite y) && not (eqb y (opposite x))) ≡ (not (eqb z x) && eqb (opposite z) y)
  one_denied z word = grind (arith, nat_tests)

  some_denied : (ws : List ℕ) → AllByRecursion (λ w. w < 65536) ws → (has (opposite y) ws && not (eqb y (opposite x))) ≡ other_denied x y ws
  unfolding other_denied
  some_denied [] words = refl
  some_denied (z ∷ zs) words = and-or_distrib_right (eqb z (opposite y)) (has (opposite y) zs) (not (eqb y (opposite x))) ∙ ap₂ (λ a b. a || b) (one_denied z words.0) (some_denied zs words.1)

pub other_denied_lem : (x y v u : ℕ) (table : List Bool) → x < 65536 → y < 65536 → length table ≡ 65536 → v ≡ opposite y → u ≡ opposite x → other_denied x y (flagged table) ≡ (get_or table v false && not (eqb y u))
unfolding flagged
other_denied_lem x y v u table x-word y-word places v-is u-is =
    rw (v-is, u-is) (sym (ap (λ b. b && not (eqb y (opposite x))) (sym (has_flagged (opposite y) table)) ∙ some_denied x y x-word y-word (flagged table) (flagged_words 0 table (omega arith))))
