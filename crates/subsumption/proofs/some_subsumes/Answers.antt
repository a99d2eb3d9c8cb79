use Rattle.std.proofs.Common.{sym, rules, ◌∙◌}
use Rattle.std.proofs.ByRecursion.{All-get_or}
use Rattle.std.proofs.lemmas.Iterator.Adapters.{serves_from_places}
use Rattle.std.proofs.lemmas.Iterator.Consumers.{YieldsList-from_first}
use Rattle.std.proofs.lemmas.Iterator.Search.{any_from_yields_List}
use borrow.Author.Tests.{tests}
use Rattle.sheet.specs.Clauses.{Valid}
use Rattle.sheet.specs.Views.{clause_seen}
use Rattle.subsumption.specs.Sides.{subsumes}
use Rattle.subsumption.proofs.Removals.{some_is_any}
use Rattle.subsumption.proofs.some_subsumes.Goals as goal

pub any-requires-clause-callable : goal.any-requires-clause-callable
any-requires-clause-callable c =
    serves_from_places (YieldsList-from_first clause_seen (λ cs. cs) c.args.clauses.now c.iter.ensures.clauses) (λ x q k. search (rules, tests))
    (λ x k inside is.
    let valid = All-get_or Valid c.args.clauses.now k (clause_seen x) inside c.requires.valid in
    let rising = (rw (sym is) at valid).normal.rising in
    search rules)

pub returns : goal.returns
returns c =
    any_from_yields_List (subsumes c.args.side c.args.lits.now) _ _ _ c.any.ensures.ran (YieldsList-from_first clause_seen (λ cs. cs) c.args.clauses.now c.iter.ensures.clauses) (λ x b q k. search (rules, tests))
    ∙ some_is_any (subsumes c.args.side c.args.lits.now) c.args.clauses.now
