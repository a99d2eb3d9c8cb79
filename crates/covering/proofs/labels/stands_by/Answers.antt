use Rattle.std.proofs.Common.{rules, ◌∙◌}
use Rattle.std.proofs.lemmas.Iterator.Consumers.{YieldsList-from_first}
use Rattle.std.proofs.lemmas.Iterator.Search.{all_from_yields_List}
use borrow.Author.Tests.{tests}
use Rattle.sheet.specs.Views.{clause_seen}
use Rattle.steps.specs.Covering.{stands}
use Rattle.covering.proofs.Searches.{every_is_all}
use Rattle.covering.proofs.labels.stands_by.Goals as goal

pub returns : goal.returns
returns c =
    all_from_yields_List (stands c.args.l c.args.m) _ _ _ c.all.ensures.ran (YieldsList-from_first clause_seen (λ cs. cs) c.args.clauses.now c.iter.ensures.clauses) (λ x b q k. search (rules, tests))
    ∙ every_is_all (stands c.args.l c.args.m) c.args.clauses.now
