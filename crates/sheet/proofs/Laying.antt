-- Words of clauses: reading back what was written, and words laid end to end. Assumes nothing.
use Rattle.std.proofs.Common.{◌≡◌, ℕ, zero, suc, ◌+◌, ◌*◌, ◌/◌, ◌%◌, ◌<◌, ◌≤◌, List, [], ◌∷◌, ◌++◌, length, get_or, take, drop, sym, refl, ap, ◌∙◌, arith}
use Rattle.std.specs.List.{AllByRecursion}
use Rattle.std.proofs.lemmas.List.{append_assoc, append_cancel_left, append-nil, drop_at, get_or-append-add, get_or_append_left, length-append, length-drop, take_at}
use Rattle.std.proofs.ByRecursion.{All-append}
use Rattle.sheet.specs.Clauses.{Clause, Tag, Hard, Soft, Working, kind_of, ordinal_of, clause_words, encode, tag_of, first_clause, behind, clauses_n, clauses, Valid, Laid}

all_right : {X : Type 0} (P : X → Type 0) (xs ys : List X) → AllByRecursion P (xs ++ ys) → AllByRecursion P ys
all_right P [] ys all = all
all_right P (x ∷ xs) ys all = all_right P xs ys all.1

pub same_clause : (c d : Clause) → c.tag ≡ d.tag → c.lits ≡ d.lits → c ≡ d
same_clause c d tags lits = ap (λ t. record { tag = t; lits = c.lits }) tags ∙ ap (λ ls. record { tag = d.tag; lits = ls }) lits

-- Reading, clause by clause.

clauses_n_nil : (n : ℕ) → clauses_n n [] ≡ []
clauses_n_nil zero = refl
clauses_n_nil (suc n) = refl

-- a bound that is large enough does not matter
clauses_n_enough : (n m : ℕ) (ws : List ℕ) → length ws ≤ n → length ws ≤ m → clauses_n n ws ≡ clauses_n m ws
clauses_n_enough n m [] p q = clauses_n_nil n ∙ sym (clauses_n_nil m)
clauses_n_enough zero m (h ∷ ws) p q = absurd (omega arith)
clauses_n_enough (suc n) zero (h ∷ ws) p q = absurd (omega arith)
clauses_n_enough (suc n) (suc m) (h ∷ ws) p q =
    ap (λ cs. first_clause h ws ∷ cs)
    (clauses_n_enough n m (drop (behind h) ws) (simp length-drop (omega arith)) (simp length-drop (omega arith)))

pub clauses_nil : clauses [] ≡ []
unfolding clauses
clauses_nil = refl

clauses_cons : (h : ℕ) (ws : List ℕ) → clauses (h ∷ ws) ≡ first_clause h ws ∷ clauses (drop (behind h) ws)
unfolding clauses
clauses_cons h ws =
    let rest = drop (behind h) ws in
    ap (λ cs. first_clause h ws ∷ cs) (clauses_n_enough (length ws) (length rest) rest (simp length-drop (omega arith)) (omega arith))

-- What a header says of its clause.

pub behind_kind : (t : Tag) (h : ℕ) → h / 4096 ≡ kind_of t → behind h ≡ h % 4096 + length (ordinal_of t)
behind_kind Hard h kind = rw kind (omega arith)
behind_kind (Soft n) h kind = rw kind
behind_kind Working h kind = rw kind (omega arith)

-- n is the tag's ordinal, if it has one
abbrev pub Ordinal : Tag → ℕ → Type 0
Ordinal t n = 0 < length (ordinal_of t) → n ≡ get_or (ordinal_of t) 0 0

pub tag_kind : (t : Tag) (n : ℕ) → Ordinal t n → tag_of (kind_of t) n ≡ t
tag_kind Hard n is = refl
tag_kind (Soft m) n is = ap Soft (is (omega arith))
tag_kind Working n is = refl

-- Reading what was written.

module _ (c : Clause) (ws : List ℕ) (v : Valid c) where
  abbrev header : ℕ
  header = kind_of c.tag * 4096 + length c.lits

  -- what stands behind the header
  abbrev tail : List ℕ
  tail = c.lits ++ ordinal_of c.tag ++ ws

  kind : header / 4096 ≡ kind_of c.tag
  kind = omega arith

  count : header % 4096 ≡ length c.lits
  count = omega arith

  cut : tail ≡ c.lits ++ (ordinal_of c.tag ++ ws)
  cut = append_assoc c.lits (ordinal_of c.tag) ws

  ordinal : Ordinal c.tag (get_or tail (header % 4096) 0)
  ordinal some =
      let place : header % 4096 ≡ length c.lits + 0 = omega (arith, count) in
      ap (λ n. get_or tail n 0) place
      ∙ ap (λ xs. get_or xs (length c.lits + 0) 0) cut
      ∙ get_or-append-add c.lits (ordinal_of c.tag ++ ws) 0 0
      ∙ get_or_append_left (ordinal_of c.tag) ws 0 0 some

  first : first_clause header tail ≡ c
  first =
      same_clause (first_clause header tail) c
      (ap (λ k. tag_of k (get_or tail (header % 4096) 0)) kind ∙ tag_kind c.tag (get_or tail (header % 4096) 0) ordinal)
      (ap (take (header % 4096)) cut ∙ take_at c.lits (ordinal_of c.tag ++ ws) (header % 4096) (sym count))

  pub size : length (c.lits ++ ordinal_of c.tag) ≡ behind header
  size = omega (arith, length-append c.lits (ordinal_of c.tag), count, behind_kind c.tag header kind)

  pub body : take (behind header) tail ≡ c.lits ++ ordinal_of c.tag
  body = take_at (c.lits ++ ordinal_of c.tag) ws (behind header) size

  pub rest : drop (behind header) tail ≡ ws
  rest = drop_at (c.lits ++ ordinal_of c.tag) ws (behind header) size

  pub clauses_words : clauses (clause_words c ++ ws) ≡ c ∷ clauses ws
  clauses_words = clauses_cons header tail ∙ ap (λ d. d ∷ clauses (drop (behind header) tail)) first ∙ ap (λ xs. c ∷ clauses xs) rest

clauses_written : (cs : List Clause) (ws : List ℕ) → AllByRecursion Valid cs → clauses (encode cs ++ ws) ≡ cs ++ clauses ws
clauses_written [] ws v = refl
clauses_written (c ∷ cs) ws v =
    ap clauses (append_assoc (clause_words c) (encode cs) ws)
    ∙ clauses_words c (encode cs ++ ws) v.0
    ∙ ap (λ ds. c ∷ ds) (clauses_written cs ws v.1)

pub clauses_encode : (cs : List Clause) → AllByRecursion Valid cs → clauses (encode cs) ≡ cs
clauses_encode cs v =
    ap clauses (sym (append-nil (encode cs))) ∙ clauses_written cs [] v ∙ ap (λ ds. cs ++ ds) clauses_nil ∙ append-nil cs

pub encode_append : (cs ds : List Clause) → encode (cs ++ ds) ≡ encode cs ++ encode ds
encode_append [] ds = refl
encode_append (c ∷ cs) ds =
    ap (λ ws. clause_words c ++ ws) (encode_append cs ds) ∙ sym (append_assoc (clause_words c) (encode cs) (encode ds))

-- Words that are laid.

pub encode_laid : (ws : List ℕ) → Laid ws → encode (clauses ws) ≡ ws
unfolding Laid
encode_laid ws laid = laid.0

pub valid_laid : (ws : List ℕ) → Laid ws → AllByRecursion Valid (clauses ws)
unfolding Laid
valid_laid ws laid = laid.1

pub laid_encode : (cs : List Clause) → AllByRecursion Valid cs → Laid (encode cs)
unfolding Laid
laid_encode cs v =
    let read = clauses_encode cs v in
    (ap encode read, rw read v)

pub laid_words : (c : Clause) → Valid c → Laid (clause_words c)
laid_words c v = rw append-nil at (laid_encode (c ∷ []) (v, tt))

pub clauses_one : (c : Clause) → Valid c → clauses (clause_words c) ≡ c ∷ []
clauses_one c v = ap clauses (sym (append-nil (clause_words c))) ∙ clauses_encode (c ∷ []) (v, tt)

pub laid_nil : Laid []
laid_nil = laid_encode [] tt

pub clauses_append : (xs ys : List ℕ) → Laid xs → clauses (xs ++ ys) ≡ clauses xs ++ clauses ys
clauses_append xs ys laid =
    ap (λ ws. clauses (ws ++ ys)) (sym (encode_laid xs laid)) ∙ clauses_written (clauses xs) ys (valid_laid xs laid)

encode_read : (xs ys : List ℕ) → Laid xs → encode (clauses (xs ++ ys)) ≡ xs ++ encode (clauses ys)
encode_read xs ys laid =
    ap encode (clauses_append xs ys laid)
    ∙ encode_append (clauses xs) (clauses ys)
    ∙ ap (λ ws. ws ++ encode (clauses ys)) (encode_laid xs laid)

pub laid_append : (xs ys : List ℕ) → Laid xs → Laid ys → Laid (xs ++ ys)
unfolding Laid
laid_append xs ys front back = (
  encode_read xs ys front ∙ ap (λ ws. xs ++ ws) back.0,
  rw (clauses_append xs ys front) (All-append Valid (clauses xs) (clauses ys) front.1 back.1),
)

-- behind laid words that are a front of laid words, the rest is laid
pub laid_behind : (xs ys : List ℕ) → Laid xs → Laid (xs ++ ys) → Laid ys
unfolding Laid
laid_behind xs ys front whole = (
  append_cancel_left xs (encode (clauses ys)) ys (sym (encode_read xs ys front) ∙ whole.0),
  all_right Valid (clauses xs) (clauses ys) (rw (clauses_append xs ys front) at whole.1),
)

-- Laid words that are not empty begin with a clause.

pub record Opened (ws : List ℕ) : Type 0 where
  pub first : Clause
  pub others : List Clause
  pub words : ws ≡ clause_words first ++ encode others
  pub valid : Valid first
  pub all : AllByRecursion Valid others

opened_by : (ws : List ℕ) (cs : List Clause) → encode cs ≡ ws → AllByRecursion Valid cs → 0 < length ws → Opened ws
opened_by ws [] is v some = absurd (omega (arith, ap length is))
opened_by ws (c ∷ cs) is v some = record { first = c; others = cs; words = sym is; valid = v.0; all = v.1 }

pub opened : (ws : List ℕ) → Laid ws → 0 < length ws → Opened ws
opened ws laid some = opened_by ws (clauses ws) (encode_laid ws laid) (valid_laid ws laid) some
