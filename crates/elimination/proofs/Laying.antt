-- What stands on sheet and stack once the resolvents and the records are written and the clauses of the item are gone. Assumes nothing.
use Rattle.std.proofs.Common.{◌≡◌, ℕ, ◌+◌, ◌-◌, ◌≤◌, min, Bool, true, leb, List, [], ◌∷◌, ◌++◌, length, take, drop, filter, sym, refl, ap, ◌∙◌, subst, ap₂, arith}
use Rattle.std.specs.List.{AllByRecursion}
use Rattle.std.proofs.Math.Seq.{take-append-add}
use Rattle.std.proofs.lemmas.List.{length-append, length-drop, length-take-le, take-append-le}
use Rattle.std.proofs.lemmas.List.Elements.{filter-append}
use Rattle.std.proofs.ByRecursion.{All-append}
use Rattle.std.proofs.lemmas.Bool.{and_parts, and_from, cond-true, le-leb}
use borrow.Rule.Slice.PartMut.{put_mid}
use Rattle.sheet.specs.declared.buffers.Marks.{Marks}
use Rattle.sheet.specs.Clauses.{Clause, Laid, Valid, ordinal_of, clause_words, clauses, encode}
use Rattle.sheet.specs.Records.{Record, Stacked, ValidRecord, records, encode_stack}
use Rattle.sheet.specs.Sheets.{Fits}
use Rattle.sheet.proofs.Laying.{encode_laid, laid_append, laid_encode, clauses_append, clauses_encode}
use Rattle.sheet.proofs.Stacking.{encode_stack_append, records_encode, stacked_encode, stacked_valid, stacked_words}
use Rattle.steps.specs.Places.{every}
use Rattle.steps.specs.Elimination.{resolvents, lacks_both, elimination_records, is_counted}
use Rattle.elimination.specs.Eliminating.{Eliminable, Words, clauses_of, step_fits, Made}
use Rattle.elimination.specs.Writing.{Written}

all_counted : (cs : List Clause) → every is_counted cs ≡ true → AllByRecursion (λ c. is_counted c ≡ true → Valid c) cs → AllByRecursion Valid cs
all_counted [] few valid = tt
all_counted (c ∷ cs) few valid = let parts = and_parts (is_counted c) (every is_counted cs) few in (valid.0 parts.0, all_counted cs parts.1 valid.1)

kept_all : (keep : Clause → Bool) (cs : List Clause) → AllByRecursion (λ c. keep c ≡ true) cs → filter keep cs ≡ cs
kept_all keep [] all = refl
kept_all keep (c ∷ cs) all = cond-true (keep c) (c ∷ filter keep cs) (filter keep cs) all.0 ∙ ap (λ ds. c ∷ ds) (kept_all keep cs all.1)

-- each clause has a word of its own
pub few_clauses : (fill : ℕ) (s : List ℕ) → Fits fill s → Laid (take fill s) → length (clauses (take fill s)) ≤ 32768
few_clauses fill s fits laid = omega (arith, ap length (encode_laid (take fill s) laid), few (clauses (take fill s)), length-take-le fill s fits.length, fits.bound)
  where
    few : (cs : List Clause) → length cs ≤ length (encode cs)
    few [] = omega arith
    few (c ∷ cs) = omega (arith, few cs, length-append c.lits (ordinal_of c.tag), length-append (clause_words c) (encode cs))

-- clauses written behind laid words
module _ (front : List ℕ) (new : List Clause) (laid : Laid front) (valid : AllByRecursion Valid new) where
  pub laid_behind : Laid (front ++ encode new)
  laid_behind = laid_append front (encode new) laid (laid_encode new valid)

  pub clauses_behind : clauses (front ++ encode new) ≡ clauses front ++ new
  clauses_behind = clauses_append front (encode new) laid ∙ ap (λ cs. clauses front ++ cs) (clauses_encode new valid)

-- records written behind stacked words
module _ (front : List ℕ) (new : List Record) (stacked : Stacked front) (valid : AllByRecursion ValidRecord new) where
  words_behind : front ++ encode_stack new ≡ encode_stack (records front ++ new)
  words_behind = ap (λ ws. ws ++ encode_stack new) (sym (stacked_words front stacked)) ∙ sym (encode_stack_append (records front) new)

  both : AllByRecursion ValidRecord (records front ++ new)
  both = All-append ValidRecord (records front) new (stacked_valid front stacked) valid

  pub stacked_behind : Stacked (front ++ encode_stack new)
  stacked_behind = subst (λ ws. Stacked ws) (sym words_behind) (stacked_encode (records front ++ new) both)

  pub records_behind : records (front ++ encode_stack new) ≡ records front ++ new
  records_behind = ap records words_behind ∙ records_encode (records front ++ new) both

-- Words of which a part was lent behind `at`, up to a limit, and written from its front on.

pub record Grown (s cur : List ℕ) (at limit : ℕ) (ws : List ℕ) (end : ℕ) : Type 0 where
  pub is : end ≡ at + length ws
  pub fits : end ≤ limit
  pub words : take end cur ≡ take at s ++ ws

module _ (s front free old rest : List ℕ) {fill at limit : ℕ} (is : fill ≡ at) (inside : at ≤ limit) (top : limit ≤ length s) (same : front ≡ take fill s) (size : length free ≡ length old) (room : length old ≡ limit - at) where
  pub grown : {ws : List ℕ} {m : ℕ} → Written old free ws m → Grown s (front ++ (free ++ rest)) at limit ws (fill + m)
  grown {m = m} done =
      let fits = done.fits in
      let end = done.end in
      let count = ap length same ∙ length-take-le fill s (omega arith) in
      record {
        is = omega arith;
        fits = omega arith;
        words =
            ap (λ n. take (n + m) (front ++ (free ++ rest))) (sym count) ∙ take-append-add front (free ++ rest) m
            ∙ ap₂ (λ (us vs : List ℕ). us ++ vs) (same ∙ ap (λ n. take n s) is) (take-append-le m free rest (omega arith) ∙ done.words);
      }

-- the same of a sheet and a stack, by their marks as they are called elsewhere
module _ (x : ℕ) (b : Words) (m : Marks) (is : m ≡ b.marks) (cs : List Clause) (same : cs ≡ clauses (take m.sheet b.sheet)) (n : ℕ) (free : List ℕ) where
  all_same : cs ≡ clauses_of b
  all_same = same ∙ ap (λ (k : Marks). clauses (take k.sheet b.sheet)) is

  pub sheet_grown : Fits b.marks.sheet b.sheet → (front back : List ℕ) → front ≡ take m.sheet b.sheet → back ≡ drop m.sheet b.sheet → (k : ℕ) → k ≡ min (length b.sheet) 32768 - m.sheet → length free ≡ length (take k back)
      → (every is_counted (resolvents x cs) ≡ true) × Written (take k back) free (encode (resolvents x cs)) n
      → (every is_counted (resolvents x (clauses_of b)) ≡ true) × Grown b.sheet (front ++ (free ++ drop k back)) b.marks.sheet (min (length b.sheet) 32768) (encode (resolvents x (clauses_of b))) (m.sheet + n)
  sheet_grown fits front back front_is back_is k k_is size (few, done) =
      let mark = ap (λ (k : Marks). k.sheet) is in
      let long = fits.length in
      let bound = fits.bound in
      let room = length-take-le k back (omega (arith, ap length back_is, length-drop m.sheet b.sheet)) in (
        ap (λ ds. every is_counted (resolvents x ds)) (sym all_same) ∙ few,
        subst (λ ds. Grown b.sheet (front ++ (free ++ drop k back)) b.marks.sheet (min (length b.sheet) 32768) (encode (resolvents x ds)) (m.sheet + n)) all_same
            (grown b.sheet front free (take k back) (drop k back) mark (omega arith) (omega arith) front_is size (omega arith) done),
      )

  pub stack_grown : Fits b.marks.stack b.stack → (k : ℕ) → k ≡ min (length b.stack) 32768 - m.stack → length free ≡ length (take k (drop m.stack b.stack))
      → Written (take k (drop m.stack b.stack)) free (encode_stack (elimination_records x cs)) n
      → Grown b.stack (put_mid m.stack k b.stack free) b.marks.stack (min (length b.stack) 32768) (encode_stack (elimination_records x (clauses_of b))) (m.stack + n)
  stack_grown fits k k_is size done =
      let mark = ap (λ (k : Marks). k.stack) is in
      let long = fits.length in
      let bound = fits.bound in
      let room = length-take-le k (drop m.stack b.stack) (omega (arith, length-drop m.stack b.stack)) in
      subst (λ ds. Grown b.stack (put_mid m.stack k b.stack free) b.marks.stack (min (length b.stack) 32768) (encode_stack (elimination_records x ds)) (m.stack + n)) all_same
      (grown b.stack (take m.stack b.stack) free (take k (drop m.stack b.stack)) (drop k (drop m.stack b.stack)) mark (omega arith) (omega arith) refl size (omega arith) done)

module _ (x : ℕ) (b : Words) (laid : Laid (take b.marks.sheet b.sheet)) (item : Eliminable x (clauses_of b)) (cur : List ℕ) (end : ℕ)
    (few : every is_counted (resolvents x (clauses_of b)) ≡ true) (wrote : Grown b.sheet cur b.marks.sheet (min (length b.sheet) 32768) (encode (resolvents x (clauses_of b))) end) where
  abbrev new : List Clause
  new = resolvents x (clauses_of b)

  valid : AllByRecursion Valid new
  valid = all_counted new few item.valid

  pub all_laid : Laid (take end cur)
  all_laid = subst (λ ws. Laid ws) (sym wrote.words) (laid_behind (take b.marks.sheet b.sheet) new laid valid)

  all_clauses : clauses (take end cur) ≡ clauses_of b ++ new
  all_clauses = ap clauses wrote.words ∙ clauses_behind (take b.marks.sheet b.sheet) new laid valid

  module _ (stacked : Stacked (take b.marks.stack b.stack)) (stack' : List ℕ) (top : ℕ)
      (pushed : Grown b.stack stack' b.marks.stack (min (length b.stack) 32768) (encode_stack (elimination_records x (clauses_of b))) top) where
    abbrev recs : List Record
    recs = elimination_records x (clauses_of b)

    pub all_fits : step_fits x b ≡ true
    all_fits =
        let end_fits = wrote.fits in
        let end_is = wrote.is in
        let top-fits = pushed.fits in
        let top-is = pushed.is in
        and_from (every is_counted new) _ few
        (and_from (leb (b.marks.sheet + length (encode new)) (min (length b.sheet) 32768)) (leb (b.marks.stack + length (encode_stack recs)) (min (length b.stack) 32768))
        (le-leb (b.marks.sheet + length (encode new)) (min (length b.sheet) 32768) (omega arith))
        (le-leb (b.marks.stack + length (encode_stack recs)) (min (length b.stack) 32768) (omega arith)))

    pub all_made : (c : Words) (out : ℕ) → c.marks ≡ record { sheet = out; stack = top } → length c.sheet ≡ length b.sheet → length c.stack ≡ length b.stack → c.stack ≡ stack' → out ≤ end
        → Laid (take out c.sheet) → clauses (take out c.sheet) ≡ filter (lacks_both x) (clauses (take end cur)) → Made x b c
    all_made c out marks sheet_long stack_long stack_is shrinks laid' kept =
        let end_fits = wrote.fits in
        let top-fits = pushed.fits in
        let sheet_mark : c.marks.sheet ≡ out = ap (λ (m : Marks). m.sheet) marks in
        let stack_mark : c.marks.stack ≡ top = ap (λ (m : Marks). m.stack) marks in
        let words : take c.marks.stack c.stack ≡ take b.marks.stack b.stack ++ encode_stack recs = ap₂ (λ (n : ℕ) (ws : List ℕ). take n ws) stack_mark stack_is ∙ pushed.words in
        record {
          sheet = record { bound = omega arith; length = omega arith };
          laid = subst (λ n. Laid (take n c.sheet)) (sym sheet_mark) laid';
          clauses =
              ap (λ n. clauses (take n c.sheet)) sheet_mark ∙ kept ∙ ap (filter (lacks_both x)) all_clauses ∙ filter-append (lacks_both x) (clauses_of b) new
              ∙ ap (λ cs. filter (lacks_both x) (clauses_of b) ++ cs) (kept_all (lacks_both x) new item.apart);
          stack = record { bound = omega arith; length = omega arith };
          stacked = subst (λ ws. Stacked ws) (sym words) (stacked_behind (take b.marks.stack b.stack) recs stacked item.records);
          records = ap records words ∙ records_behind (take b.marks.stack b.stack) recs stacked item.records;
        }
