use Rattle.std.proofs.Common.{◌≡◌, ℕ, suc, ◌+◌, ◌<◌, ◌≤◌, min, List, ◌++◌, length, take, refl, ap, ◌∙◌, ap₂, arith}
use Rattle.std.specs.List.{between}
use Rattle.std.proofs.lemmas.List.{length-append}
use Rattle.sheet.specs.Clauses.{ordinal_of, clause_words}
use Rattle.session.specs.Adding.{words_cause}
use Rattle.session.proofs.Storing.{paste_front, paste_part, words_fit, words_pass}
use Rattle.session.proofs.gathering.add.store.Goals as goal

pub returns-then-words-min : goal.returns-then-words-min
returns-then-words-min c =
    let fill = c.args.fill in
    let room = length c.args.sheet.now in
    let words = length-append c.args.flags.now (ordinal_of c.args.tag) in
    let is : suc (length (c.args.flags.now ++ ordinal_of c.args.tag)) ≡ c.size-words.result = omega arith in
    let low = c.requires.fits.length in
    let bound = c.requires.fits.bound in
    let past : min room 32768 < fill + c.size-words.result = omega arith in
    (ap (words_cause fill room) is ∙ words_pass fill room c.size-words.result past, refl)

pub returns : goal.returns
returns c =
    let s = c.args.sheet.now in
    let fill = c.args.fill in
    let ws = c.args.flags.now in
    let n = c.len-count.result in
    let count : n ≡ length ws = c.len-count.ensures in
    let tag = c.args.tag in
    let words = length-append ws (ordinal_of tag) in
    let low = c.requires.fits.length in
    let bound = c.requires.fits.bound in
    let inside : fill + suc (length (ws ++ ordinal_of tag)) ≤ min (length s) 32768 = omega arith in
    let fits : fill + 1 + length ws ≤ length s = omega arith in
    let mid = c.write.new.sheet in
    let front : take fill mid ≡ take fill s = ap (take fill) c.write.ensures.after ∙ paste_front s (fill + 1) ws fits fill (omega arith) in
    let part : between (fill + 1) (fill + 1 + n) mid ≡ ws = ap (λ k. between (fill + 1) (fill + 1 + k) mid) count ∙ ap (between (fill + 1) (fill + 1 + length ws)) c.write.ensures.after ∙ paste_part s (fill + 1) ws fits in (
      words_fit fill (length s) (suc (length (ws ++ ordinal_of tag))) inside,
      omega (arith, c.enclose.ensures.end),
      c.enclose.ensures.words ∙ ap₂ (λ (xs ys : List ℕ). xs ++ clause_words (record { tag = tag; lits = ys })) front part,
    )
