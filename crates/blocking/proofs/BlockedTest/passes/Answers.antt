use Rattle.std.proofs.Common.{◌&&◌, ap, ◌∙◌}
use Rattle.blocking.specs.Blocks.{all_block}
use Rattle.blocking.proofs.Alike.{blocked_alike}
use Rattle.blocking.proofs.BlockedTest.passes.Goals as goal

pub returns-then-is_plain-clause-order : goal.returns-then-is_plain-clause-order
returns-then-is_plain-clause-order c lits same =
    let row = c.args.row.now in
    let cs = c.args.clauses.now in
    let marked = c.args.marked.now in
    c.all_block.ensures ∙ ap (λ b. b && all_block row cs marked c.args.w) c.if-is_plain.ensures ∙ blocked_alike row cs marked lits c.args.w same
