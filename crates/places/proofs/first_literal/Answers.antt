use Rattle.std.proofs.Common.{rules, tests}
use Rattle.std.proofs.lemmas.Iterator.{YieldsList-from_slice}
use Rattle.std.proofs.lemmas.Iterator.Search.{position_from_yields_List}
use Rattle.places.proofs.Searching.{word_found}
use Rattle.places.proofs.first_literal.Goals as goal

pub returns : goal.returns
returns g c =
    word_found (g.T.Test.test c.args.test.now c.args.row.now c.args.clauses.now c.args.marked.now) c.args.lits.now c.position.result
    (position_from_yields_List _ _ _ c.position.result c.position.ensures.ran (YieldsList-from_slice c.args.lits.now (cc)) (λ x b q k. search (rules, tests)))
