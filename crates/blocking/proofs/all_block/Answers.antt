use Rattle.std.proofs.Common.{rules, tests, ◌∙◌}
use Rattle.std.proofs.lemmas.Iterator.Consumers.{YieldsList-from_first}
use Rattle.std.proofs.lemmas.Iterator.Search.{all_from_yields_List}
use Rattle.sheet.specs.Views.{clause_seen}
use Rattle.places.proofs.Clausewise.{every_is_all}
use Rattle.blocking.specs.Blocks.{blocks_in, all_block}
use Rattle.blocking.proofs.all_block.Goals as goal

pub returns : goal.returns
unfolding all_block blocks_in
returns c =
    let cs = c.args.clauses.now in
    let test = blocks_in c.args.row.now c.args.marked.now c.args.w in
    all_from_yields_List test _ _ c.all.result c.all.ensures.ran (YieldsList-from_first clause_seen (λ ds. ds) cs c.iter.ensures.clauses) (λ x b q k. search (rules, tests))
    ∙ every_is_all test cs
