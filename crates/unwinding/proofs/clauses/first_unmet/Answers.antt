use Rattle.std.proofs.Common.{ℕ, zero, suc, ◌≤◌, List, [], ◌∷◌, length, drop, ap, inl, arith}
use Rattle.std.specs.Iterator.Adapters.{enumerate_count, enumerate_source}
use Rattle.sheet.specs.Clauses.{behind, clauses, clauses_n}
use Rattle.unwinding.proofs.clauses.first_unmet.Goals as goal

few_n : (n : ℕ) (ws : List ℕ) → length (clauses_n n ws) ≤ n
few_n zero ws = omega arith
few_n (suc n) [] = omega arith
few_n (suc n) (h ∷ ws) = let rest = few_n n (drop (behind h) ws) in omega arith

-- no more clauses than words
few : (ws : List ℕ) → length (clauses ws) ≤ length ws
unfolding clauses
few ws = few_n (length ws) ws

pub loop-number-init-derived : goal.loop-number-init-derived
loop-number-init-derived c =
    let same = c.into_iter-number-iterator.ensures.into_iter_gives in
    let count = ap enumerate_count same in
    let left = ap (λ s. length (enumerate_source s)) same in
    let source = ap length c.enumerate-number-items.ensures.source in
    let all = ap length c.of.ensures.clauses in
    ((tt, tt, inl (omega (arith, few c.args.sheet.now))), tt)
