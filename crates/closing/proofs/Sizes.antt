-- How many clauses words can hold: at most as many as there are words. Assumes nothing.
use Rattle.std.proofs.Common.{ℕ, zero, suc, ◌≤◌, List, [], ◌∷◌, length, drop, arith}
use Rattle.sheet.specs.Clauses.{behind, clauses, clauses_n}

clauses_n_few : (n : ℕ) (ws : List ℕ) → length (clauses_n n ws) ≤ n
clauses_n_few zero ws = omega arith
clauses_n_few (suc n) [] = omega arith
clauses_n_few (suc n) (h ∷ ws) = let rest = clauses_n_few n (drop (behind h) ws) in omega arith

pub clauses_few : (ws : List ℕ) → length (clauses ws) ≤ length ws
unfolding clauses
clauses_few ws = clauses_n_few (length ws) ws
