-- What a header says of the clause that it begins: from laid words to a step. Assumes nothing.
use Rattle.std.proofs.Common.{◌≡◌, ℕ, ◌+◌, ◌*◌, ◌/◌, ◌%◌, ◌<◌, ◌≤◌, List, [], ◌∷◌, ◌++◌, length, get_or, sym, refl, ap, ◌∙◌, arith}
use Rattle.std.specs.List.{between}
use Rattle.std.proofs.lemmas.List.{length-append}
use Rattle.std.proofs.lemmas.List.Edits.{get_or-between, length-between}
use Rattle.sheet.specs.declared.clause.Place.{Place}
use Rattle.sheet.specs.Clauses.{Tag, Hard, Soft, Working, Laid, clauses, clause_words, encode, kind_of, ordinal_of, tag_of, behind}
use Rattle.sheet.specs.ClauseSteps.{Step, placed}
use Rattle.sheet.proofs.Cuts.{between_first, cut_back, cut_front}
use Rattle.sheet.proofs.Laying.{Opened, Ordinal, behind_kind, clauses_encode, laid_encode, opened, same_clause, tag_kind}

-- the place that the header at `at` tells of: a soft's ordinal is its last word
abbrev pub place_at : List ℕ → ℕ → Place
place_at s at = record {
  tag = tag_of (get_or s at 0 / 4096) (get_or s (at + behind (get_or s at 0)) 0);
  from = at + 1;
  to = at + 1 + get_or s at 0 % 4096;
  end = at + 1 + behind (get_or s at 0);
}

same_place : (p q : Place) → p.tag ≡ q.tag → p.from ≡ q.from → p.to ≡ q.to → p.end ≡ q.end → p ≡ q
same_place p q tag from to end =
    ap (λ x. record { tag = x; from = p.from; to = p.to; end = p.end }) tag
    ∙ ap (λ x. record { tag = q.tag; from = x; to = p.to; end = p.end }) from
    ∙ ap (λ x. record { tag = q.tag; from = q.from; to = x; end = p.end }) to
    ∙ ap (λ x. record { tag = q.tag; from = q.from; to = q.to; end = x }) end

one_ordinal : (t : Tag) → length (ordinal_of t) ≤ 1
one_ordinal Hard = omega arith
one_ordinal (Soft n) = omega arith
one_ordinal Working = omega arith

module _ (s : List ℕ) (at fill : ℕ) (less : at < fill) (o : Opened (between at fill s)) where
  header : get_or s at 0 ≡ kind_of o.first.tag * 4096 + length o.first.lits
  header = between_first s at fill 0 _ _ less o.words

  kind : get_or s at 0 / 4096 ≡ kind_of o.first.tag
  kind = omega (arith, header)

  count : get_or s at 0 % 4096 ≡ length o.first.lits
  count = omega (arith, header)

  size : behind (get_or s at 0) ≡ length o.first.lits + length (ordinal_of o.first.tag)
  size = behind_kind o.first.tag (get_or s at 0) kind ∙ ap (λ n. n + length (ordinal_of o.first.tag)) count

  to : (place_at s at).to ≡ at + 1 + length o.first.lits
  to = omega (arith, count)

  end : (place_at s at).end ≡ at + length (clause_words o.first)
  end = omega (arith, size, length-append o.first.lits (ordinal_of o.first.tag))

  words_here : between at (place_at s at).end s ≡ clause_words o.first
  words_here = cut_front s at (place_at s at).end fill (clause_words o.first) (encode o.others) o.words end (omega arith)

  words_rest : between (place_at s at).end fill s ≡ encode o.others
  words_rest = cut_back s at (place_at s at).end fill (clause_words o.first) (encode o.others) o.words end

  words_behind : between (at + 1) (place_at s at).end s ≡ o.first.lits ++ ordinal_of o.first.tag
  words_behind = cut_back s at (at + 1) (place_at s at).end (_ ∷ []) (o.first.lits ++ ordinal_of o.first.tag) words_here (omega arith)

  ordinal : Ordinal o.first.tag (get_or s (at + behind (get_or s at 0)) 0)
  ordinal some =
      let last : at + behind (get_or s at 0) ≡ (place_at s at).to + 0 = omega (arith, size, to, one_ordinal o.first.tag) in
      ap (λ n. get_or s n 0) last
      ∙ sym (get_or-between s (place_at s at).to (place_at s at).end 0 0 (omega (arith, size, to)))
      ∙ ap (λ ns. get_or ns 0 0) (cut_back s (at + 1) (place_at s at).to (place_at s at).end o.first.lits (ordinal_of o.first.tag) words_behind to)

  same : placed s (place_at s at) ≡ o.first
  same =
      same_clause (placed s (place_at s at)) o.first
      (ap (λ k. tag_of k (get_or s (at + behind (get_or s at 0)) 0)) kind ∙ tag_kind o.first.tag _ ordinal)
      (cut_front s (at + 1) (place_at s at).to (place_at s at).end o.first.lits (ordinal_of o.first.tag) words_behind to (omega arith))

  stepped : fill ≤ length s → Step s at fill (place_at s at)
  stepped fits =
      let long = length-between s at fill fits in
      let sum = ap length o.words ∙ length-append (clause_words o.first) (encode o.others) in
      record {
        from = refl;
        order = omega arith;
        inside = omega (arith, size, to);
        fits = omega (arith, end);
        valid = rw same o.valid;
        here =
            ap clauses o.words
            ∙ clauses_encode (o.first ∷ o.others) (o.valid, o.all)
            ∙ ap (λ c. c ∷ o.others) (sym same)
            ∙ ap (λ cs. placed s (place_at s at) ∷ cs) (sym (clauses_encode o.others o.all) ∙ ap clauses (sym words_rest));
        words = words_here ∙ ap clause_words (sym same);
        rest = rw words_rest (laid_encode o.others o.all);
      }

module _ (s : List ℕ) (at fill : ℕ) (fits : fill ≤ length s) (less : at < fill) where
  pub step_at : Laid (between at fill s) → Step s at fill (place_at s at)
  step_at laid = stepped s at fill less (opened (between at fill s) laid (omega (arith, length-between s at fill fits))) fits

  -- the same, field by field
  pub step_told : Laid (between at fill s) → (p : Place) → p.tag ≡ (place_at s at).tag → p.from ≡ at + 1 → p.to ≡ (place_at s at).to → p.end ≡ (place_at s at).end → Step s at fill p
  step_told laid p tag from to end = rw (same_place p (place_at s at) tag from to end) (step_at laid)
