-- Bounded variable elimination (v): a plain item whose resolvents are no more than its clauses leaves the sheet. Assumes nothing.
use Rattle.std.specs.Prelude.{◌≡◌, ℕ, ◌+◌, Bool, true, not, ◌&&◌, ◌||◌, List, [], ◌∷◌, ◌++◌, map, length, Some, None, filter, Option, ◌==◌, nat_le, nat_lt}
use Rattle.std.specs.Option.{option_map}
use Rattle.std.specs.List.{flat_map}
use Rattle.sheet.specs.Literals.{opposite, has}
use Rattle.sheet.specs.declared.row.Item.{Item}
use Rattle.sheet.specs.declared.row.Standing.TheVariants.{Fixed}
use Rattle.sheet.specs.declared.clause.Tag.TheVariants.{Working}
use Rattle.sheet.specs.Clauses.{Clause}
use Rattle.sheet.specs.Records.{Record}
use Rattle.sheet.specs.Sheets.{Sheet}
use Rattle.meaning.specs.Calls.{insert}
use Rattle.meaning.specs.Steps.{Runs, repeated_step}
use Rattle.steps.specs.Places.{some, every, lowest_item, nameable}
use Rattle.steps.specs.Rooms.{Room, clauses_fit, records_fit}
use Rattle.steps.specs.Rewriting.{but, having, plain_at, retired}

-- the union of ascending words
abbrev pub union : List ℕ → List ℕ → List ℕ
union [] ys = ys
union (x ∷ xs) ys = insert x (union xs ys)

-- d denies w, which is not x
abbrev pub clashes_at : ℕ → Clause → ℕ → Bool
clashes_at x d w = not (w == x) && has (opposite w) d.lits

-- c has x and d its denial, and no other literal of c is denied by d
abbrev pub resolves : ℕ → Clause → Clause → Bool
resolves x c d = not (some (clashes_at x d) c.lits)

abbrev pub resolvent : ℕ → Clause → Clause → Clause
resolvent x c d = record { tag = Working; lits = union (but x c.lits) (but (opposite x) d.lits) }

abbrev pub resolvents_of : ℕ → List Clause → Clause → List Clause
resolvents_of x ds c = map (resolvent x c) (filter (resolves x c) ds)

-- all that are no tautologies, the positive clauses outermost
abbrev pub resolvents : ℕ → List Clause → List Clause
resolvents x cs = flat_map (resolvents_of x (having (opposite x) cs)) (having x cs)

abbrev pub may_go : List Item → List Clause → ℕ → Bool
may_go row cs x = plain_at row x && nat_le (length (resolvents x cs)) (length (having x cs) + length (having (opposite x) cs))

abbrev pub first_to_go : {V : Type 0} → Sheet V → Option ℕ
first_to_go s = lowest_item (may_go s.row s.clauses) 1 (nameable (length s.row))

abbrev pub lacks_both : ℕ → Clause → Bool
lacks_both x c = not (has x c.lits || has (opposite x) c.lits)

-- each positive clause, with the item as witness
abbrev pub elimination_record : ℕ → Clause → Record
elimination_record x c = record { code = 1; lits = c.lits; witness = x }

abbrev pub elimination_records : ℕ → List Clause → List Record
elimination_records x cs = map (elimination_record x) (having x cs)

abbrev pub eliminated : {V : Type 0} → Sheet V → ℕ → Sheet V
eliminated s x = record {
  callers = s.callers;
  row = retired s.row x Fixed;
  clauses = filter (lacks_both x) s.clauses ++ resolvents x s.clauses;
  stack = s.stack ++ elimination_records x s.clauses;
  weights = s.weights;
}

unfoldable pub elimination : {V : Type 0} → Sheet V → Option (Sheet V)
elimination s = option_map (eliminated s) (first_to_go s)

-- a header counts at most 4,095 literals
abbrev pub is_counted : Clause → Bool
is_counted c = nat_lt (length c.lits) 4096

abbrev pub elimination_fits : {V : Type 0} → Room → Sheet V → Option ℕ → Bool
elimination_fits room s None = true
elimination_fits room s (Some x) = every is_counted (resolvents x s.clauses) && (clauses_fit room s (resolvents x s.clauses) && records_fit room s (elimination_records x s.clauses))

unfoldable pub EliminationRuns : {V : Type 0} → Room → Runs (Sheet V)
EliminationRuns room n s o = o ≡ repeated_step elimination (λ t. elimination_fits room t (first_to_go t)) n s
