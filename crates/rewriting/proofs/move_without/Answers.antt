use Rattle.std.proofs.Common.{◌≡◌, ◌-◌, ◌≤◌, List, ◌++◌, length, ◌∙◌, ap₂, arith}
use Rattle.std.specs.List.{between}
use Rattle.std.proofs.lemmas.List.Edits.{length-between}
use Rattle.sheet.specs.Clauses.{clause_words}
use Rattle.sheet.proofs.Cuts.{drop_later}
use Rattle.steps.specs.Rewriting.{but}
use Rattle.rewriting.proofs.Moving.{moved_down}
use Rattle.rewriting.proofs.move_without.Goals as goal

pub returns : goal.returns
returns c =
    let s = c.args.sheet.now in
    let from = c.args.place.from in
    let to = c.args.place.to in
    let end = c.args.place.end in
    let ws = c.keep_others-count.new.words in
    let count = c.keep_others-count.result in
    let long : length (between from to s) ≡ to - from = length-between s from to (omega arith) in
    let same : length ws ≡ to - from = omega (arith, c.keep_others-count.auto.words) in
    let few : count ≤ to - from = omega (arith, c.keep_others-count.ensures.few) in
    let slid = c.slide.ensures in
    let moved = moved_down s ws (but c.args.w (between from to s)) c.args.out from to count c.requires.down c.requires.order (omega arith) same few c.keep_others-count.ensures.kept
    c.slide.new.sheet c.slide.result slid.end slid.front slid.behind in
    let ended = c.enclose.ensures in
    record {
      shrinks = omega (arith, ended.end);
      front = ended.words ∙ ap₂ (λ (xs ys : List _). xs ++ clause_words (record { tag = c.args.place.tag; lits = ys })) moved.0 moved.1;
      behind = drop_later c.enclose.new.sheet c.slide.new.sheet c.enclose.result end (omega (arith, ended.end)) ended.behind ∙ moved.2 end (omega arith);
    }
