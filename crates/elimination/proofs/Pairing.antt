-- The resolvents of a clause, and of all clauses with an item, one clause after another. Assumes nothing.
use Rattle.std.proofs.Common.{◌≡◌, ℕ, ◌+◌, ◌≤◌, Bool, true, List, [], ◌∷◌, ◌++◌, map, length, filter, sym, ap, ◌∙◌, subst, arith}
use Rattle.std.specs.List.{AllByRecursion, flat_map}
use Rattle.std.proofs.lemmas.List.{length-append}
use Rattle.std.proofs.lemmas.Bool.{cond-true, and_parts}
use Rattle.sheet.specs.Literals.{Rising, opposite, has}
use Rattle.sheet.specs.Clauses.{Clause, Valid}
use Rattle.steps.specs.Rewriting.{has_lit, having}
use Rattle.steps.specs.Elimination.{resolves, resolvent, resolvents_of}
use Rattle.elimination.specs.Resolving.{working, pairs_with, resolvents_in}

module _ (x : ℕ) (c d : Clause) (ds : List Clause) where
  pub resolvents_taken : pairs_with x c d ≡ true → resolvents_in x c (d ∷ ds) ≡ resolvent x c d ∷ resolvents_in x c ds
  resolvents_taken pairs =
      let parts = and_parts (has (opposite x) d.lits) (resolves x c d) pairs in
      ap (λ es. map (resolvent x c) (filter (resolves x c) es)) (cond-true (has_lit (opposite x) d) (d ∷ having (opposite x) ds) (having (opposite x) ds) parts.0)
      ∙ ap (map (resolvent x c)) (cond-true (resolves x c d) (d ∷ filter (resolves x c) (having (opposite x) ds)) (filter (resolves x c) (having (opposite x) ds)) parts.1)

-- of the positive clauses among `cs`, with those that deny x among `all`
abbrev pub resolvents_from : ℕ → List Clause → List Clause → List Clause
resolvents_from x all cs = flat_map (resolvents_of x (having (opposite x) all)) (having x cs)

module _ (x : ℕ) (all : List Clause) (c : Clause) (cs : List Clause) where
  pub from_taken : has x c.lits ≡ true → resolvents_from x all (c ∷ cs) ≡ resolvents_in x c all ++ resolvents_from x all cs
  from_taken there = ap (flat_map (resolvents_of x (having (opposite x) all))) (cond-true (has_lit x c) (c ∷ having x cs) (having x cs) there)

  -- by the literals that are marked, and the clauses as they were
  pub count_from : (marked : List ℕ) (before : List Clause) → marked ≡ c.lits → before ≡ c ∷ cs → has x c.lits ≡ true
      → length (resolvents_from x all before) ≡ length (resolvents_in x (working marked) all) + length (resolvents_from x all cs)
  count_from marked before same is there =
      ap (λ ds. length (resolvents_from x all ds)) is ∙ ap length (from_taken there) ∙ length-append (resolvents_in x c all) (resolvents_from x all cs)
      ∙ ap (λ ws. length (resolvents_in x (working ws) all) + length (resolvents_from x all cs)) (sym same)

-- the literals of the first of valid clauses ascend
pub rising_first : {c : Clause} {before ds : List Clause} → AllByRecursion Valid before → before ≡ c ∷ ds → Rising c.lits
rising_first valid is = (subst (AllByRecursion Valid) is valid).0.normal.rising

pub few_pass : (keep : Clause → Bool) (cs : List Clause) → length (filter keep cs) ≤ length cs
few_pass keep [] = omega arith
few_pass keep (c ∷ cs) = let rest = few_pass keep cs in grind arith
