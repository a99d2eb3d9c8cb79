-- The record that words end with, by its place in them. Assumes nothing.
use Rattle.std.proofs.Common.{◌≡◌, ℕ, ◌+◌, ◌-◌, ◌*◌, ◌/◌, ◌%◌, ◌<◌, List, ◌++◌, length, get_or, take, sym, ap, ◌∙◌, subst, append_assoc, arith}
use Rattle.std.proofs.lemmas.List.{take_all, take_more}
use Rattle.std.proofs.lemmas.List.Edits.{length-between}
use Rattle.sheet.specs.declared.«record».Filed.{Filed}
use Rattle.sheet.specs.Records.{record_words, records, Stacked}
use Rattle.sheet.specs.RecordSteps.{filed, Ends}
use Rattle.sheet.proofs.Cuts.{take_parts}
use Rattle.sheet.proofs.Stacking.{records_append, stacked_append, stacked_last, stacked_front, stacked_room}

module _ (ws : List ℕ) where
  -- no record ends with a word that counts more literals than there is room for
  pub no_room : (t : ℕ) → t + 1 ≡ length ws → length ws < get_or ws t 0 % 4096 + 2 → Stacked ws → ⊥
  no_room t end past stacked =
      let last : length ws - 1 ≡ t = omega arith in
      let read : get_or ws (length ws - 1) 0 ≡ get_or ws t 0 = ap (λ k. get_or ws k 0) last in
      omega (arith, stacked_room ws stacked (omega arith))

  module _ (p : Filed) (end : p.to + 2 ≡ length ws) (count : p.from + get_or ws (p.to + 1) 0 % 4096 ≡ p.to) (code : p.code ≡ get_or ws (p.to + 1) 0 / 4096) (witness : p.witness ≡ get_or ws p.to 0) where
    long : length (filed ws p).lits ≡ p.to - p.from
    long = length-between ws p.from p.to (omega arith)

    words : ws ≡ take p.from ws ++ record_words (filed ws p)
    words =
        let trailer : p.code * 4096 + length (filed ws p).lits ≡ get_or ws (p.to + 1) 0 = omega (arith, long) in
        let more = take_more ws p.to 0 (omega arith) in
        let most = take_more ws (p.to + 1) 0 (omega arith) in
        sym (take_all (p.to + 1 + 1) ws (omega arith)) ∙ rw (most, more, take_parts ws p.from p.to (omega arith), trailer, witness) (simp append_assoc)

    pub ends : p.code < 16 → Ends ws p
    ends small =
        let few : length (filed ws p).lits < 4096 = omega (arith, long) in
        record {
          order = omega arith;
          end = end;
          code = small;
          count = omega arith;
          newest = λ stacked.
              let both = subst (λ xs. Stacked xs) words stacked in
              record {
                order = omega arith;
                end = end;
                witness = witness;
                valid = stacked_last (take p.from ws) (filed ws p) few both;
                last = ap records words ∙ records_append (take p.from ws) (filed ws p) few;
                rest = stacked_front (take p.from ws) (filed ws p) few both;
              };
          stacked = λ valid rest. subst (λ xs. Stacked xs) (sym words) (stacked_append (take p.from ws) (filed ws p) rest valid);
        }
