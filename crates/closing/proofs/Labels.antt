-- The labelled clauses without the softs are the closed ones, and each soft that does not lend wants one more item. Assumes nothing.
use Rattle.std.proofs.Common.{◌≡◌, ℕ, suc, ◌+◌, ◌-◌, ◌*◌, ◌<◌, ◌≤◌, Bool, true, false, cond, not, List, [], ◌∷◌, ◌++◌, length, get_or, set, filter, refl, ap, ◌∙◌, arith}
use Rattle.std.proofs.lemmas.List.{length-append, length-set, length_push}
use Rattle.std.proofs.lemmas.Bool.{cond_both, false≢true}
use Rattle.sheet.specs.declared.row.Item.{Item}
use Rattle.sheet.specs.declared.clause.Tag.{Tag}
use Rattle.sheet.specs.declared.clause.Tag.TheVariants.{Hard, Soft, Working}
use Rattle.sheet.specs.Literals.{item_of}
use Rattle.sheet.specs.Clauses.{Clause, clause_words, encode, ordinal_of}
use Rattle.meaning.specs.Calls.{if_soft, insert, lends_item, label_item, only_item, labelled_row, working_clause, closed_row, closed_clauses}
use Rattle.closing.specs.Labelling.{clause_of, labelled_clause, labelled_clauses, without_softs, wants_fresh}

kept_one : (all : List Clause) (t : Tag) (ws : List ℕ) (row : List Item) (cs : List Clause) → without_softs (labelled_clause all t ws row ∷ cs) ≡ working_clause all t ws row ++ without_softs cs
kept_one all Hard ws row cs = refl
kept_one all (Soft n) ws row cs = split (lends_item all ws)
  where
    split : (b : Bool) → without_softs (cond b (clause_of (Soft n) ws) (clause_of Working (insert (suc (length row)) ws)) ∷ cs)
        ≡ cond b [] (clause_of Working (insert (suc (length row)) ws) ∷ []) ++ without_softs cs
    split true = refl
    split false = refl
kept_one all Working ws row cs = refl

pub without_softs_labelled : (all : List Clause) (row : List Item) (cs : List Clause) → without_softs (labelled_clauses all row cs) ≡ closed_clauses all row cs
without_softs_labelled all row [] = refl
without_softs_labelled all row (c ∷ cs) =
    kept_one all c.tag c.lits row (labelled_clauses all (labelled_row all c.tag c.lits row) cs)
    ∙ ap (λ z. working_clause all c.tag c.lits row ++ z) (without_softs_labelled all (labelled_row all c.tag c.lits row) cs)

-- how many softs want a fresh label
abbrev pub fresh_labels : List Clause → List Clause → ℕ
fresh_labels all cs = length (filter (wants_fresh all) cs)

fresh_labels_cons : (all : List Clause) (c : Clause) (cs : List Clause) → fresh_labels all (c ∷ cs) ≡ cond (wants_fresh all c) 1 0 + fresh_labels all cs
fresh_labels_cons all c cs = split (wants_fresh all c)
  where
    split : (b : Bool) → length (cond b (c ∷ filter (wants_fresh all) cs) (filter (wants_fresh all) cs)) ≡ cond b 1 0 + fresh_labels all cs
    split true = omega arith
    split false = omega arith

-- one more item for a soft that does not lend
length_labelled_row : (all : List Clause) (t : Tag) (ws : List ℕ) (row : List Item) → length (labelled_row all t ws row) ≡ length row + cond (if_soft t (not (lends_item all ws))) 1 0
length_labelled_row all Hard ws row = omega arith
length_labelled_row all (Soft n) ws row = split (lends_item all ws)
  where
    split : (b : Bool) → length (cond b (set row (only_item ws - 1) (label_item n)) (row ++ (label_item n ∷ []))) ≡ length row + cond (not b) 1 0
    split true = simp length-set (omega arith)
    split false = length_push row (label_item n)
length_labelled_row all Working ws row = omega arith

pub length_closed_row : (all : List Clause) (row : List Item) (cs : List Clause) → length (closed_row all row cs) ≡ length row + fresh_labels all cs
length_closed_row all row [] = omega arith
length_closed_row all row (c ∷ cs) =
    let rest = length_closed_row all (labelled_row all c.tag c.lits row) cs in
    let here = length_labelled_row all c.tag c.lits row in
    omega (arith, fresh_labels_cons all c cs)

-- a soft has a header and an ordinal at least
pub fresh_labels_words : (all cs : List Clause) → 2 * fresh_labels all cs ≤ length (encode cs)
fresh_labels_words all [] = omega arith
fresh_labels_words all (c ∷ cs) =
    let rest = fresh_labels_words all cs in
    let words = length-append (clause_words c) (encode cs) in
    let tail = length-append c.lits (ordinal_of c.tag) in
    let here : 2 * cond (wants_fresh all c) 1 0 ≤ 1 + length (ordinal_of c.tag) = soft c.tag in
    omega (arith, fresh_labels_cons all c cs)
  where
    soft : (t : Tag) → 2 * cond (if_soft t (not (lends_item all c.lits))) 1 0 ≤ 1 + length (ordinal_of t)
    soft Hard = omega arith
    soft (Soft n) = cond_both (not (lends_item all c.lits)) 1 0 (λ k. 2 * k ≤ 2) (λ _. omega arith) (λ _. omega arith)
    soft Working = omega arith

-- a soft that lends has a literal, the one that names its item
pub lends_some : (all : List Clause) (ws : List ℕ) → lends_item all ws ≡ true → 0 < length ws
lends_some all [] lends = absurd (false≢true lends)
lends_some all (w ∷ ws) lends = omega arith

pub only_item_first : (ws : List ℕ) → 0 < length ws → only_item ws ≡ item_of (get_or ws 0 0)
only_item_first [] some = absurd (omega arith)
only_item_first (w ∷ ws) some = refl
