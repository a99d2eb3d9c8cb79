use Rattle.std.proofs.Common.{rules, tests}
use Rattle.std.proofs.lemmas.Iterator.Consumers.{count_from_yields_List, YieldsList-from_filter, YieldsList-from_first}
use Rattle.sheet.specs.Views.{clause_seen}
use Rattle.steps.specs.Rewriting.{has_lit}
use Rattle.elimination.proofs.count.count_having.Goals as goal

pub returns : goal.returns
returns c =
    count_from_yields_List _ _ c.count.ensures.ran
    (YieldsList-from_filter _ (has_lit c.args.w) (YieldsList-from_first clause_seen (λ cs. cs) c.args.clauses.now cc) c.filter.ensures.closure (λ x r q k. search (rules, tests)))
