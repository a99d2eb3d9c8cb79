-- Ascending words by their places. Assumes nothing.
use Rattle.std.proofs.Common.{◌≡◌, ℕ, zero, suc, ◌+◌, ◌<◌, ◌≤◌, Bool, true, false, ltb, List, [], ◌∷◌, length, get_or, Decides, ap, inl, inr, arith}
use Rattle.std.proofs.ByRecursion.{All-get_or, All-weaker}
use Rattle.std.proofs.lemmas.Bool.{cases_lt}
use Rattle.std.proofs.lemmas.Bool.Decides.{nat_tests}
use Rattle.std.specs.List.{IsAllAdjacentAnswer}
use Rattle.sheet.specs.Literals.{Rising}
use Rattle.sheet.proofs.Deciding.{accepts, refuses}

pub rising_places : (ws : List ℕ) → Rising ws → (i j : ℕ) → i < j → j < length ws → get_or ws i 0 < get_or ws j 0
rising_places [] up i j less inside = absurd (omega arith)
rising_places (w ∷ ws) up i zero less inside = absurd (omega arith)
rising_places (w ∷ ws) up zero (suc j) less inside = All-get_or (λ y. w < y) ws j 0 (omega arith) up.0
rising_places (w ∷ ws) up (suc i) (suc j) less inside = rising_places ws up.1 i j (omega arith) (omega arith)

pub rising_from : (ws : List ℕ) → Rising ws → (i j : ℕ) → i ≤ j → j < length ws → get_or ws i 0 ≤ get_or ws j 0
rising_from ws up i j order inside = elim (cases_lt i j) [
  | inl less ↦ omega (arith, rising_places ws up i j less inside)
  | inr past ↦ let same : i ≡ j = omega arith in omega (arith, ap (λ k. get_or ws k 0) same)
]

-- each below the next is enough
pub rising_neighbours : (ws : List ℕ) → ((k : ℕ) → k + 1 < length ws → get_or ws k 0 < get_or ws (k + 1) 0) → Rising ws
rising_neighbours [] next = tt
rising_neighbours (w ∷ []) next = (tt, tt)
rising_neighbours (w ∷ v ∷ ws) next =
    let below : w < v = next 0 (omega arith) in
    let rest = rising_neighbours (v ∷ ws) (λ k inside. let one : suc k + 1 ≡ suc (k + 1) = omega arith in rw one at (next (suc k) (omega arith))) in
    ((below, All-weaker (λ y. v < y) (λ y. w < y) (λ y above. omega arith) ws rest.0), rest)

-- so a test of each with the next decides
pub neighbours_decide : (r : Bool) (ws : List ℕ) → IsAllAdjacentAnswer (λ v w b. b ≡ ltb v w) ws r → Decides r (Rising ws)
neighbours_decide true ws h = accepts (rising_neighbours ws (λ k inside. let up = h k 0 inside in grind (arith, nat_tests)))
neighbours_decide false ws h =
    let down = h.2 0 in
    refuses (λ up. let above = rising_places ws up h.0 (h.0 + 1) (omega arith) h.1 in grind (arith, nat_tests))
