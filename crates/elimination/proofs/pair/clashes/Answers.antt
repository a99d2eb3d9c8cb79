use Rattle.std.proofs.Common.{sym, ◌∙◌, rules, tests}
use Rattle.std.proofs.lemmas.Iterator.{YieldsList-from_slice}
use Rattle.std.proofs.lemmas.Iterator.Search.{any_from_yields_List}
use Rattle.marking.specs.Marks.{other_denied}
use Rattle.elimination.proofs.Clashing.{clashes_is_any}
use Rattle.elimination.proofs.pair.clashes.Goals as goal

pub returns : goal.returns
returns c =
    any_from_yields_List (λ y. other_denied c.args.x y c.args.marked.now) _ _ _ c.any.ensures.ran (YieldsList-from_slice c.args.d.now cc) (λ x b q k. search (rules, tests))
    ∙ sym (clashes_is_any c.args.x c.args.marked.now c.args.d.now)
