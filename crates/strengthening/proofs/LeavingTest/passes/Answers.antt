use Rattle.std.proofs.Common.{◌&&◌, ap, ◌∙◌}
use Rattle.strengthening.specs.Leaving.{yielded}
use Rattle.strengthening.proofs.Alike.{leaves_alike}
use Rattle.strengthening.proofs.LeavingTest.passes.Goals as goal

pub returns-then-is_plain-clause-order : goal.returns-then-is_plain-clause-order
returns-then-is_plain-clause-order c lits same =
    let row = c.args.row.now in
    let cs = c.args.clauses.now in
    let marked = c.args.marked.now in
    c.some_yields.ensures ∙ ap (λ b. b && yielded cs marked c.args.w) c.if-is_plain.ensures ∙ leaves_alike row cs marked lits c.args.w same
