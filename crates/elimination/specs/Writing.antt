-- Words and clauses written at the front of free words, if there is room for them. Assumes nothing.
use Rattle.std.specs.Prelude.{◌≡◌, ℕ, ◌<◌, ◌≤◌, Bool, true, false, ◌&&◌, List, length, take, Option, MatchOption, nat_le}
use Rattle.sheet.specs.Clauses.{Clause, encode}
use Rattle.steps.specs.Places.{every}
use Rattle.steps.specs.Elimination.{is_counted}

-- the words ws are now the first n
pub record Written (s s' : List ℕ) (ws : List ℕ) (n : ℕ) : Type 0 where
  pub end : n ≡ length ws
  pub fits : n ≤ length s
  pub words : take n s' ≡ ws

-- they are, if they fit
abbrev pub Wrote : List ℕ → List ℕ → List ℕ → Option ℕ → Type 0
Wrote s s' ws r = MatchOption r (length s < length ws) (Written s s' ws)

-- clauses that a header can count, and that fit in so many words
abbrev pub clauses_room : ℕ → List Clause → Bool
clauses_room room new = every is_counted new && nat_le (length (encode new)) room

abbrev pub WroteClauses : List ℕ → List ℕ → List Clause → Option ℕ → Type 0
WroteClauses s s' new r = MatchOption r (clauses_room (length s) new ≡ false) (λ n. (every is_counted new ≡ true) × Written s s' (encode new) n)
