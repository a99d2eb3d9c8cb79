-- What the buffers stand for once a clause is written behind the others. Assumes nothing.
use Rattle.std.proofs.Common.{◌≡◌, ℕ, ◌+◌, ◌<◌, ◌≤◌, min, List, [], ◌∷◌, ◌++◌, map, length, take, drop, set, ℤ, Some, None, sym, ap, ◌∙◌, ap₂, add-one, arith, take-suc-set}
use Rattle.std.specs.List.{between}
use lib.Seq.{paste}
use Rattle.std.proofs.lemmas.List.{drop_at, length-append, length-map, length-take-le, map-append, take_all, take-append-le, take-take}
use Rattle.std.proofs.lemmas.List.Edits.{take-paste}
use Rattle.std.proofs.lemmas.Slice.{between_is}
use Rattle.std.proofs.lemmas.Bool.Decides.{nat_tests}
use Rattle.weight.specs.declared.kind.Weight.{Ghosts}
use Rattle.sheet.specs.declared.clause.Tag.TheVariants.{Hard as hard, Soft as soft}
use Rattle.sheet.specs.Clauses.{Clause, Valid, Laid, clauses, clause_words}
use Rattle.sheet.specs.Sheets.{Lent, used_clauses, used_row, used_records, used_weights, decoded}
use Rattle.sheet.proofs.Laying.{clauses_append, clauses_one, laid_append, laid_words}
use Rattle.meaning.specs.Accepted.{must, wish}
use Rattle.sheet.specs.declared.refusal.Refusal.TheVariants.{WordsDoNotFit}
use Rattle.meaning.specs.Calls.{normal, stored}
use Rattle.session.specs.Adding.{words_cause}

-- one clause more
module _ (ws : List ℕ) (c : Clause) (laid : Laid ws) (valid : Valid c) where
  pub laid_push : Laid (ws ++ clause_words c)
  laid_push = laid_append ws (clause_words c) laid (laid_words c valid)

  pub clauses_push : clauses (ws ++ clause_words c) ≡ clauses ws ++ (c ∷ [])
  clauses_push = clauses_append ws (clause_words c) laid ∙ ap (λ cs. clauses ws ++ cs) (clauses_one c valid)

module _ {W : Type 0} (m : Ghosts W) where
  -- how many weights the sheet has
  pub weights_long : (b : Lent W) → b.counts.softs ≤ length b.weights → length (decoded m b).weights ≡ b.counts.softs
  unfolding decoded
  weights_long b fits = length-map (used_weights b) m.value ∙ length-take-le b.counts.softs b.weights fits

  -- the values kept once one more is written
  pub weights_push : (ws : List W) (n : ℕ) (w : W) → n < length ws → map m.value (take (n + 1) (set ws n w)) ≡ map m.value (take n ws) ++ (m.value w ∷ [])
  weights_push ws n w inside = rw add-one (ap (map m.value) (take-suc-set ws n w inside) ∙ map-append m.value (take n ws) (w ∷ []))

  -- what the buffers then stand for, hard or soft
  module _ (b : Lent W) (sheet : List ℕ) (end : ℕ) (zs : List ℤ) (laid : Laid (take b.marks.sheet b.sheet)) where
    pub decoded_hard : Valid (record { tag = hard; lits = normal zs })
        → take end sheet ≡ take b.marks.sheet b.sheet ++ clause_words (record { tag = hard; lits = normal zs })
        → decoded m (record { sheet = sheet; row = b.row; stack = b.stack; weights = b.weights; marks = record { sheet = end; stack = b.marks.stack }; counts = b.counts }) ≡ stored (decoded m b) (must zs)
    unfolding decoded
    decoded_hard valid written =
        ap (λ cs. record { callers = b.counts.callers; row = used_row b; clauses = cs; stack = used_records b; weights = map m.value (used_weights b) })
        (ap clauses written ∙ clauses_push (take b.marks.sheet b.sheet) (record { tag = hard; lits = normal zs }) laid valid)

    pub decoded_soft : (w : W) → b.counts.softs < length b.weights → Valid (record { tag = soft b.counts.softs; lits = normal zs })
        → take end sheet ≡ take b.marks.sheet b.sheet ++ clause_words (record { tag = soft b.counts.softs; lits = normal zs })
        → decoded m (record { sheet = sheet; row = b.row; stack = b.stack; weights = set b.weights b.counts.softs w; marks = record { sheet = end; stack = b.marks.stack }; counts = record { callers = b.counts.callers; items = b.counts.items; softs = b.counts.softs + 1 } }) ≡ stored (decoded m b) (wish zs (m.value w))
    unfolding decoded
    decoded_soft w room valid written =
        let n = b.counts.softs in
        let kept = map m.value (used_weights b) in
        ap₂ (λ (cs : List Clause) (ws : List m.Value). record { callers = b.counts.callers; row = used_row b; clauses = cs; stack = used_records b; weights = ws })
        (ap clauses written ∙ clauses_push (take b.marks.sheet b.sheet) (record { tag = soft n; lits = normal zs }) laid valid)
        (weights_push b.weights n w room)
        ∙ ap (λ o. record { callers = b.counts.callers; row = used_row b; clauses = used_clauses b ++ (record { tag = soft o; lits = normal zs } ∷ []); stack = used_records b; weights = kept ++ (m.value w ∷ []) })
        (sym (weights_long b (omega arith)))

-- Words fit, or they do not.
module _ (fill room words : ℕ) where
  pub words_fit : fill + words ≤ min room 32768 → words_cause fill room words ≡ None
  words_fit inside = grind (arith, nat_tests)

  pub words_pass : min room 32768 < fill + words → words_cause fill room words ≡ Some (WordsDoNotFit words)
  words_pass past = grind (arith, nat_tests)

-- words pasted into others, in front of them and where they stand
module _ (s : List ℕ) (at : ℕ) (ws : List ℕ) (fits : at + length ws ≤ length s) where
  pub paste_front : (n : ℕ) → n ≤ at → take n (paste s at ws (length ws)) ≡ take n s
  paste_front n low =
      let long = length-take-le at s (omega arith) in
      take-append-le n (take at s ++ take (length ws) ws) (drop (at + length ws) s) (simp length-append (omega arith))
      ∙ take-append-le n (take at s) (take (length ws) ws) (omega arith)
      ∙ take-take n at s low

  pub paste_part : between at (at + length ws) (paste s at ws (length ws)) ≡ ws
  paste_part =
      between_is (paste s at ws (length ws)) at (at + length ws)
      ∙ ap (drop at) (take-paste s at ws (length ws) (omega arith) (omega arith))
      ∙ drop_at (take at s) (take (length ws) ws) at (length-take-le at s (omega arith))
      ∙ take_all (length ws) ws (omega arith)
