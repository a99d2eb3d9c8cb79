use Rattle.std.proofs.Common.{rules, tests, ap, ◌∙◌}
use Rattle.std.proofs.lemmas.Iterator.Consumers.{YieldsList-from_first}
use Rattle.std.proofs.lemmas.Iterator.Search.{any_from_yields_List}
use Rattle.sheet.specs.Views.{clause_seen}
use Rattle.steps.specs.Places.{some}
use Rattle.places.proofs.Clausewise.{some_is_any}
use Rattle.strengthening.specs.Leaving.{yields_to, yielded}
use Rattle.strengthening.proofs.some_yields.Goals as goal

pub returns : goal.returns
unfolding yielded
returns c =
    let cs = c.args.clauses.now in
    let lits = c.args.marked.now in
    any_from_yields_List (yields_to lits c.opposite-denial.result) _ _ _ c.any.ensures.ran (YieldsList-from_first clause_seen (λ ds. ds) cs c.iter.ensures.clauses) (λ x b q k. search (rules, tests))
    ∙ some_is_any (yields_to lits c.opposite-denial.result) cs
    ∙ ap (λ w. some (yields_to lits w) cs) c.opposite-denial.ensures
