-- Clauses, and how they lie in words: a header (4 bits of kind, 12 bits of count), the literals, and a soft's ordinal, which the count leaves out. Assumes nothing.
use Rattle.std.specs.Prelude.{◌≡◌, ℕ, zero, suc, ◌+◌, ◌*◌, ◌/◌, ◌%◌, ◌<◌, cond, List, [], ◌∷◌, ◌++◌, length, take, drop, ◌==◌, slice_index}
use Rattle.std.specs.List.{AllByRecursion}
use Rattle.sheet.specs.Literals.{Normal}
pub use Rattle.sheet.specs.declared.clause.Tag.{Tag}
pub use Rattle.sheet.specs.declared.clause.Tag.TheVariants.{Hard, Soft, Working}

pub record Clause : Type 0 where
  pub tag : Tag
  -- as words
  pub lits : List ℕ

abbrev pub kind_of : Tag → ℕ
kind_of Hard = 1
kind_of (Soft n) = 2
kind_of Working = 3

abbrev pub ordinal_of : Tag → List ℕ
ordinal_of Hard = []
ordinal_of (Soft n) = n ∷ []
ordinal_of Working = []

abbrev pub clause_words : Clause → List ℕ
clause_words c = (kind_of c.tag * 4096 + length c.lits) ∷ (c.lits ++ ordinal_of c.tag)

-- clauses lie end to end
abbrev pub encode : List Clause → List ℕ
encode [] = []
encode (c ∷ cs) = clause_words c ++ encode cs

-- Reading: the clause that a header and the words behind it begin with.

abbrev pub tag_of : ℕ → ℕ → Tag
tag_of kind ordinal = cond (kind == 1) Hard (cond (kind == 2) (Soft ordinal) Working)

abbrev pub first_clause : ℕ → List ℕ → Clause
first_clause h ws = record { tag = tag_of (h / 4096) (slice_index ws (h % 4096)); lits = take (h % 4096) ws }

-- how many words stand behind a header
abbrev pub behind : ℕ → ℕ
behind h = cond (h / 4096 == 2) (h % 4096 + 1) (h % 4096)

-- at most n clauses
abbrev pub clauses_n : ℕ → List ℕ → List Clause
clauses_n zero ws = []
clauses_n (suc n) [] = []
clauses_n (suc n) (h ∷ ws) = first_clause h ws ∷ clauses_n n (drop (behind h) ws)

-- the clauses that words hold, read from the front
unfoldable pub clauses : List ℕ → List Clause
clauses ws = clauses_n (length ws) ws

pub record Valid (c : Clause) : Type 0 where
  pub count : length c.lits < 4096
  pub normal : Normal c.lits

-- The words are exactly those of clauses that follow the layout.
unfoldable pub Laid : List ℕ → Type 0
Laid ws = (encode (clauses ws) ≡ ws) × AllByRecursion Valid (clauses ws)

-- the ordinals of the soft clauses, in sheet order
abbrev pub soft_ordinals : List Clause → List ℕ
soft_ordinals [] = []
soft_ordinals (c ∷ cs) = ordinal_of c.tag ++ soft_ordinals cs
