use Rattle.std.proofs.Common.{◌≡◌, ℕ, ◌+◌, ◌*◌, List, take, set, ap, ◌∙◌, ap₂}
use Rattle.sheet.specs.Clauses.{kind_of}
use Rattle.sheet.specs.ClauseSteps.{with_ordinal}
use Rattle.sheet.proofs.Enclosing.{enclosed}
use Rattle.sheet.proofs.clause.enclose.Goals as goal

pub returns-clause-words : goal.returns-clause-words
returns-clause-words c =
    let s = c.args.sheet.now in
    let at = c.args.at in
    let n = c.args.count in
    let t = c.args.tag in
    let ended = c.write_ordinal.ensures in
    let now' : c.write_ordinal.new.sheet ≡ with_ordinal (set s at (kind_of t * 4096 + n)) (at + 1 + n) t = ended.words ∙ ap (λ ws. with_ordinal ws (at + 1 + n) t) c.write_header.ensures in
    ap₂ (λ (k : ℕ) (ws : List ℕ). take k ws) ended.end now' ∙ enclosed s at n t c.requires.room
