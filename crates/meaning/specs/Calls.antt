-- What the calls make of a sheet, and the sheets that lists of calls reach. Assumes nothing.
use Rattle.std.specs.Prelude.{◌≡◌, ℕ, suc, ◌+◌, ◌-◌, ◌≤◌, Bool, true, false, cond, not, ◌&&◌, ◌||◌, List, [], ◌∷◌, ◌++◌, length, replicate, ℤ, pos, negsuc, ◌==◌, nat_lt, slice_set}
use Rattle.std.specs.List.{AllByRecursion}
use Rattle.weight.specs.Kind.{Kind, total_of}
use Rattle.sheet.specs.Literals.{item_of, denied, opposite, has}
use Rattle.sheet.specs.declared.row.Item.{Item}
use Rattle.sheet.specs.declared.row.Standing.TheVariants.{Plain, Label}
use Rattle.sheet.specs.declared.clause.Tag.{Tag}
use Rattle.sheet.specs.declared.clause.Tag.TheVariants.{Hard, Soft, Working}
use Rattle.sheet.specs.Clauses.{Clause}
use Rattle.sheet.specs.Sheets.{Sheet}
use Rattle.meaning.specs.Accepted.{Accepted, must, wish, sent_of, sent_item}
use Rattle.meaning.specs.Running.{Meaning}

-- Open.

abbrev pub plain_item : Item
plain_item = record { standing = Plain; ordinal = 0 }

abbrev pub opened : {V : Type 0} → ℕ → Sheet V
opened n = record { callers = n; row = replicate n plain_item; clauses = []; stack = []; weights = [] }

-- Add.

abbrev pub word_of : ℤ → ℕ
word_of (pos n) = n
word_of (negsuc n) = 32768 + suc n

-- into its place among ascending words; a word that is there already collapses
abbrev pub insert : ℕ → List ℕ → List ℕ
insert w [] = w ∷ []
insert w (x ∷ xs) = cond (nat_lt w x) (w ∷ x ∷ xs) (cond (w == x) (x ∷ xs) (x ∷ insert w xs))

-- the literals as they are stored
abbrev pub normal : List ℤ → List ℕ
normal [] = []
normal (z ∷ zs) = insert (word_of z) (normal zs)

-- one of `ws` has its opposite in `all`
abbrev pub clashes : List ℕ → List ℕ → Bool
clashes all [] = false
clashes all (w ∷ ws) = has (opposite w) all || clashes all ws

-- both signs of an item
abbrev pub tautology : List ℕ → Bool
tautology ws = clashes ws ws

abbrev pub stored : {V : Type 0} → Sheet V → Accepted V → Sheet V
stored s (must zs) = record { callers = s.callers; row = s.row; clauses = s.clauses ++ (record { tag = Hard; lits = normal zs } ∷ []); stack = s.stack; weights = s.weights }
stored s (wish zs w) = record { callers = s.callers; row = s.row; clauses = s.clauses ++ (record { tag = Soft (length s.weights); lits = normal zs } ∷ []); stack = s.stack; weights = s.weights ++ (w ∷ []) }

-- a tautology is accepted and stored nowhere
abbrev pub after_add : {V : Type 0} → Sheet V → Accepted V → Sheet V
after_add s a = cond (tautology (normal (sent_of a))) s (stored s a)

-- an add that passes
pub record Added {V : Type 0} (k : Kind V) (a : Accepted V) (s t : Sheet V) : Type 0 where
  pub ranged : AllByRecursion (λ z. (1 ≤ sent_item z) × (sent_item z ≤ s.callers)) (sent_of a)
  pub after : t ≡ after_add s a
  pub softs : length t.weights ≤ 2000
  pub ceiling : k.within (total_of k (λ w. w) t.weights) ≡ true

-- Close.

abbrev pub label_item : ℕ → Item
label_item n = record { standing = Label; ordinal = n }

abbrev pub names : ℕ → List ℕ → Bool
names i [] = false
names i (w ∷ ws) = i == item_of w || names i ws

abbrev pub if_soft : Tag → Bool → Bool
if_soft Hard b = false
if_soft (Soft n) b = b
if_soft Working b = false

abbrev pub if_hard : Tag → Bool → Bool
if_hard Hard b = b
if_hard (Soft n) b = false
if_hard Working b = false

-- how many softs name an item, in either sign
abbrev pub softs_naming : ℕ → List Clause → ℕ
softs_naming i [] = 0
softs_naming i (c ∷ cs) = cond (if_soft c.tag (names i c.lits)) (suc (softs_naming i cs)) (softs_naming i cs)

-- a hard clause has the literal
abbrev pub in_hard : ℕ → List Clause → Bool
in_hard w [] = false
in_hard w (c ∷ cs) = if_hard c.tag (has w c.lits) || in_hard w cs

-- Group detection, on all the gathered clauses: the soft is the unit "not n", no other soft names n, and no hard clause has "not n".
abbrev pub lends_item : List Clause → List ℕ → Bool
lends_item all [] = false
lends_item all (w ∷ []) = denied w && (softs_naming (item_of w) all == 1 && not (in_hard w all))
lends_item all (w ∷ x ∷ ws) = false

abbrev pub only_item : List ℕ → ℕ
only_item [] = 0
only_item (w ∷ ws) = item_of w

-- the row with the soft's label: its own item, or one more
abbrev pub labelled_row : List Clause → Tag → List ℕ → List Item → List Item
labelled_row all Hard ws row = row
labelled_row all (Soft n) ws row = cond (lends_item all ws) (slice_set row (only_item ws - 1) (label_item n)) (row ++ (label_item n ∷ []))
labelled_row all Working ws row = row

-- a soft that lends its item leaves the sheet, any other takes its fresh label in
abbrev pub working_clause : List Clause → Tag → List ℕ → List Item → List Clause
working_clause all Hard ws row = record { tag = Working; lits = ws } ∷ []
working_clause all (Soft n) ws row = cond (lends_item all ws) [] (record { tag = Working; lits = insert (suc (length row)) ws } ∷ [])
working_clause all Working ws row = record { tag = Working; lits = ws } ∷ []

-- the row when the softs of `cs` have their labels
abbrev pub closed_row : List Clause → List Item → List Clause → List Item
closed_row all row [] = row
closed_row all row (c ∷ cs) = closed_row all (labelled_row all c.tag c.lits row) cs

abbrev pub closed_clauses : List Clause → List Item → List Clause → List Clause
closed_clauses all row [] = []
closed_clauses all row (c ∷ cs) = working_clause all c.tag c.lits row ++ closed_clauses all (labelled_row all c.tag c.lits row) cs

abbrev pub closed : {V : Type 0} → Sheet V → Sheet V
closed s = record { callers = s.callers; row = closed_row s.clauses s.row s.clauses; clauses = closed_clauses s.clauses s.row s.clauses; stack = s.stack; weights = s.weights }

-- Lists of calls. A refused call and an unwind change nothing, so only the others that pass are told.

pub data Stage : Type 0 where
  gathering working delivered : Stage

-- the sheet that calls reach from a new one, with the clauses they accepted; a run is any that keeps the meaning, whatever rules made it
pub data Reached {V : Type 0} (k : Kind V) : Stage → List (Accepted V) → Sheet V → Type 0 where
  by_open : {n : ℕ} {s : Sheet V} → n ≤ 2000 → s ≡ opened n → Reached k gathering [] s
  by_add : {acc : List (Accepted V)} {a : Accepted V} {s t : Sheet V} → Reached k gathering acc s → Added k a s t → Reached k gathering (acc ++ (a ∷ [])) t
  by_close : {acc : List (Accepted V)} {s t : Sheet V} → Reached k gathering acc s → t ≡ closed s → Reached k working acc t
  by_run : {acc : List (Accepted V)} {s t : Sheet V} → Reached k working acc s → Meaning k s t → Reached k working acc t
  by_deliver : {acc : List (Accepted V)} {s : Sheet V} → Reached k working acc s → Reached k delivered acc s
  by_settle : {acc : List (Accepted V)} {s : Sheet V} → Reached k delivered acc s → Reached k working acc s
