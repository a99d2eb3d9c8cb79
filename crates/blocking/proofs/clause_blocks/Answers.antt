use Rattle.std.proofs.Common.{rules, tests, not, ◌||◌, sym, ap, ◌∙◌}
use Rattle.std.specs.List.{list_any}
use Rattle.std.proofs.lemmas.Iterator.{YieldsList-from_slice}
use Rattle.std.proofs.lemmas.Iterator.Search.{any_from_yields_List}
use Rattle.sheet.specs.Literals.{has}
use Rattle.blocking.proofs.Denying.{within, blocks_within}
use Rattle.blocking.proofs.clause_blocks.Goals as goal

pub returns-then-not-has_literal : goal.returns-then-not-has_literal
returns-then-not-has_literal c =
    let row = c.args.row.now in
    let lits = c.args.marked.now in
    let other = c.args.other.now in
    let lacks = sym (c.has_literal.ensures ∙ ap (λ v. has v other) c.opposite.ensures) ∙ c.if-not-has_literal.true in
    ap not c.if-not-has_literal.true ∙ sym (blocks_within row lits other c.args.w ∙ ap (λ b. not b || list_any (within row lits other c.args.w) other) lacks)

pub returns-else-not-has_literal : goal.returns-else-not-has_literal
returns-else-not-has_literal c =
    let row = c.args.row.now in
    let lits = c.args.marked.now in
    let other = c.args.other.now in
    let there = sym (c.has_literal.ensures ∙ ap (λ v. has v other) c.opposite.ensures) ∙ c.if-not-has_literal.false in
    any_from_yields_List (within row lits other c.args.w) _ _ c.any.result c.any.ensures.ran (YieldsList-from_slice other (cc)) (λ x b q k. search (rules, tests))
    ∙ sym (blocks_within row lits other c.args.w ∙ ap (λ b. not b || list_any (within row lits other c.args.w) other) there)
