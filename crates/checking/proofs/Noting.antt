-- A loop that notes ordinals in a table and stops at the first that is there. Assumes nothing.
use Rattle.std.proofs.Common.{◌≡◌, ℕ, ◌+◌, ◌<◌, Bool, true, false, ◌||◌, eqb, List, [], ◌∷◌, ◌++◌, length, get_or, drop, set, replicate, sym, refl, ap, ◌∙◌, subst, inl, inr, arith}
use Rattle.std.proofs.lemmas.List.{append_assoc, length-replicate, get_or-set_same, get_or-set_other, get_or-replicate, get_or_past, at_drop_more}
use Rattle.std.proofs.ByRecursion.{All-push}
use Rattle.std.proofs.lemmas.Bool.{false≢true, eqb-true, eqb-false, eq-eqb, ne_eqb, or_cases, or_parts, or_right, cases_lt, cases_eq, cond-true, cond-false}
use Rattle.std.proofs.lemmas.Bool.Decides.{nat_tests}
use Rattle.sheet.specs.declared.clause.Tag.{Tag}
use Rattle.sheet.specs.declared.row.Item.{Item}
use Rattle.sheet.specs.Clauses.{Clause, ordinal_of, soft_ordinals}
use Rattle.sheet.specs.Literals.{has}
use Rattle.sheet.specs.Rows.{is_label, label_ordinals}
use Rattle.sheet.specs.Together.{Distinct}
use Rattle.checking.specs.Noted.{Noted}
use Rattle.checking.specs.declared.seen.Seen.{Seen}
use Rattle.checking.proofs.Passing.{all_parts}
use Rattle.checking.proofs.Reading.{blank}

has_push : (k n : ℕ) (ns : List ℕ) → has k (ns ++ n ∷ []) ≡ (has k ns || eqb n k)
has_push k n [] = grind (arith, nat_tests)
has_push k n (x ∷ ns) = let e = has_push k n ns in grind (arith, nat_tests)

distinct_push : (ns : List ℕ) (n : ℕ) → has n ns ≡ false → Distinct ns → Distinct (ns ++ n ∷ [])
distinct_push [] n new h = (tt, tt)
distinct_push (x ∷ ns) n new h =
    let p = or_parts (eqb x n) (has n ns) new in
    (All-push (λ y. x ≡ y → ⊥) ns n h.0 (eqb-false x n p.0), distinct_push ns n p.1 h.1)

distinct_twice : (ns : List ℕ) (n : ℕ) (ms : List ℕ) → has n ns ≡ true → Distinct (ns ++ n ∷ ms) → ⊥
distinct_twice [] n ms there h = false≢true there
distinct_twice (x ∷ ns) n ms there h = elim (or_cases (eqb x n) (has n ns) there) [
  | inl e ↦ (all_parts (λ y. x ≡ y → ⊥) ns (n ∷ ms) h.0).1.0 (eqb-true x n e)
  | inr e ↦ distinct_twice ns n ms e h.1
]

-- a fresh table
pub noted_none : (n k : ℕ) → get_or (replicate n false) k false ≡ false
noted_none n k = elim (cases_lt k n) [
  | inl inside ↦ get_or-replicate n k false false inside
  | inr past ↦ get_or_past (replicate n false) k false (rw (length-replicate n false) past)
]

pub noted_more : (table : List Bool) (ns : List ℕ) (n : ℕ) → n < length table → ((k : ℕ) → get_or table k false ≡ has k ns) → (k : ℕ) → get_or (set table n true) k false ≡ has k (ns ++ n ∷ [])
noted_more table ns n inside noted k = elim (cases_eq k n) [
  | inl e ↦ rw e (get_or-set_same table n true false inside ∙ sym (has_push n n ns ∙ or_right (has n ns) (eqb n n) (eq-eqb n n refl)))
  | inr other ↦ get_or-set_other table n k true false other ∙ noted k ∙ sym (has_push k n ns ∙ or_neither other)
]
  where
    or_neither : (k ≡ n → ⊥) → (has k ns || eqb n k) ≡ has k ns
    or_neither other = let e = ne_eqb n k (λ q. other (sym q)) in grind (arith, nat_tests)

-- of all ordinals, those before the rest are noted, each once
pub record Noting (seen : Seen) (all rest : List ℕ) : Type 0 where
  pub done : List ℕ
  pub split : all ≡ done ++ rest
  pub noted : Noted seen done
  pub apart : Distinct done

pub noting_same : {seen now : Seen} {all rest : List ℕ} → now ≡ seen → Noting seen all rest → Noting now all rest
noting_same {seen} {now} {all} {rest} e h = subst (λ t. Noting t all rest) (sym e) h

-- the next ordinal is noted
module _ {seen : Seen} {all rest : List ℕ} {n : ℕ} {was : Bool} (h : Noting seen all (n ∷ rest)) (before : (ns : List ℕ) → Noted seen ns → was ≡ has n ns) where
  pub noting_more : {now : Seen} → ((ns : List ℕ) → Noted seen ns → Noted now (ns ++ n ∷ [])) → was ≡ false → Noting now all rest
  noting_more after new = record {
    done = h.done ++ n ∷ [];
    split = h.split ∙ sym (append_assoc h.done (n ∷ []) rest);
    noted = after h.done h.noted;
    apart = distinct_push h.done n (sym (before h.done h.noted) ∙ new) h.apart;
  }

  pub noting_twice : was ≡ true → Distinct all → ⊥
  noting_twice there apart = distinct_twice h.done n rest (sym (before h.done h.noted) ∙ there) (subst Distinct h.split apart)

-- a loop over a row is at its i-th item
module _ {seen : Seen} {all : List ℕ} (row : List Item) (i : ℕ) (inside : i < length row) (h : Noting seen all (label_ordinals (drop i row))) where
  pub noting_label : is_label (get_or row i blank).standing ≡ true → Noting seen all ((get_or row i blank).ordinal ∷ label_ordinals (drop (i + 1) row))
  noting_label e = subst (Noting seen all) (at_drop_more label_ordinals row i blank inside ∙ cond-true _ _ _ e) h

  pub noting_other : is_label (get_or row i blank).standing ≡ false → Noting seen all (label_ordinals (drop (i + 1) row))
  noting_other e = subst (Noting seen all) (at_drop_more label_ordinals row i blank inside ∙ cond-false _ _ _ e) h

-- a loop over clauses is at one with such a tag
pub noting_tag : {seen : Seen} {all : List ℕ} {cs rest : List Clause} {c : Clause} (tag : Tag) → cs ≡ c ∷ rest → c.tag ≡ tag → Noting seen all (soft_ordinals cs) → Noting seen all (ordinal_of tag ++ soft_ordinals rest)
noting_tag {seen} {all} {cs} {rest} tag here is h = subst (Noting seen all) (ap soft_ordinals here ∙ ap (λ t. ordinal_of t ++ soft_ordinals rest) is) h
