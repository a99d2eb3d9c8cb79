-- The clauses of a gathered sheet once each soft has its label, and what a close wants of the buffers. Assumes nothing.
use Rattle.std.specs.Prelude.{◌≡◌, ℕ, suc, ◌+◌, ◌-◌, ◌<◌, ◌≤◌, Bool, true, cond, not, List, [], ◌∷◌, ◌++◌, length, take, drop, filter, ◌≢◌}
use Rattle.std.specs.List.{between, AllByRecursion}
use Rattle.sheet.specs.Literals.{Literal, Rising}
use Rattle.sheet.specs.declared.row.Item.{Item}
use Rattle.sheet.specs.declared.clause.Tag.{Tag}
use Rattle.sheet.specs.declared.clause.Tag.TheVariants.{Hard, Soft, Working}
use Rattle.sheet.specs.Clauses.{Clause, Laid, clauses, clause_words}
use Rattle.meaning.specs.Calls.{if_soft, insert, lends_item, labelled_row, closed_row, closed_clauses}

abbrev pub clause_of : Tag → List ℕ → Clause
clause_of tag lits = record { tag = tag; lits = lits }

-- every literal names one of the items 1 to n
abbrev pub Ranged : ℕ → List Clause → Type 0
Ranged n cs = AllByRecursion (λ c. AllByRecursion (Literal n) c.lits) cs

-- a soft that lends its item is still a soft, every other clause works
abbrev pub labelled_clause : List Clause → Tag → List ℕ → List Item → Clause
labelled_clause all Hard ws row = clause_of Working ws
labelled_clause all (Soft n) ws row = cond (lends_item all ws) (clause_of (Soft n) ws) (clause_of Working (insert (suc (length row)) ws))
labelled_clause all Working ws row = clause_of Working ws

abbrev pub labelled_clauses : List Clause → List Item → List Clause → List Clause
labelled_clauses all row [] = []
labelled_clauses all row (c ∷ cs) = labelled_clause all c.tag c.lits row ∷ labelled_clauses all (labelled_row all c.tag c.lits row) cs

abbrev pub not_soft : Clause → Bool
not_soft c = not (if_soft c.tag true)

abbrev pub without_softs : List Clause → List Clause
without_softs cs = filter not_soft cs

-- a soft that does not lend its item wants a fresh one as its label
abbrev pub wants_fresh : List Clause → Clause → Bool
wants_fresh all c = if_soft c.tag (not (lends_item all c.lits))

-- how long a row of `items` gets with the labels of the clauses
abbrev pub Needed : List Clause → ℕ → ℕ → Type 0
Needed all items needed = (row : List Item) → length row ≡ items → needed ≡ length (closed_row all row all)

-- Labelled and closed, of the clauses in the first `fill` words, with the first `items` of a row.

abbrev pub labelled_in : List ℕ → ℕ → List Item → ℕ → List Clause
labelled_in sheet fill row items = labelled_clauses (clauses (take fill sheet)) (take items row) (clauses (take fill sheet))

abbrev pub closed_in : List ℕ → ℕ → List Item → ℕ → List Clause
closed_in sheet fill row items = closed_clauses (clauses (take fill sheet)) (take items row) (clauses (take fill sheet))

abbrev pub row_in : List ℕ → ℕ → List Item → ℕ → List Item
row_in sheet fill row items = closed_row (clauses (take fill sheet)) (take items row) (clauses (take fill sheet))

-- Buffers that can be closed: clauses that follow the layout and name the row's items, and room in the row for the labels.
pub record Closable (sheet : List ℕ) (fill : ℕ) (row : List Item) (items : ℕ) : Type 0 where
  pub fits : fill ≤ length sheet
  pub bound : fill ≤ 32768
  pub laid : Laid (take fill sheet)
  pub few : items ≤ 2000
  pub ranged : Ranged items (clauses (take fill sheet))
  pub held : items ≤ length row
  pub room : length (row_in sheet fill row items) ≤ length row

-- the words with another clause from `at` to `end`
abbrev pub replaced : List ℕ → ℕ → ℕ → Clause → List ℕ
replaced sheet at end c = take at sheet ++ (clause_words c ++ drop end sheet)

-- a soft that lies from `at` to `end` and has room for a label, which is none of its literals
pub record CanTake (sheet : List ℕ) (at end label : ℕ) : Type 0 where
  pub room : at + 1 < end
  pub fits : end ≤ length sheet
  pub count : end - at ≤ 4096
  pub rising : Rising (between (at + 1) (end - 1) sheet)
  pub fresh : AllByRecursion (λ w. label ≢ w) (between (at + 1) (end - 1) sheet)
