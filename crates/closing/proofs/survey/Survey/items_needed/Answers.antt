use Rattle.std.proofs.Common.{rules, sym, subst, arith}
use Rattle.std.specs.List.{AllByRecursion}
use Rattle.std.proofs.ByRecursion.{All-get_or}
use Rattle.std.proofs.lemmas.Iterator.Adapters.{serves_from_places}
use Rattle.std.proofs.lemmas.Iterator.Consumers.{YieldsList-at, YieldsList-from_first, YieldsList-from_filter, count_from_yields_List}
use Rattle.sheet.specs.Literals.{Literal}
use Rattle.sheet.specs.Views.{clause_seen}
use Rattle.closing.specs.Labelling.{wants_fresh}
use Rattle.closing.proofs.Labels.{length_closed_row}
use Rattle.closing.proofs.survey.Survey.items_needed.Goals as goal

pub count-fresh-requires-clause-can : goal.count-fresh-requires-clause-can
count-fresh-requires-clause-can c =
    let road = YieldsList-at c.filter.ensures.source (YieldsList-from_first clause_seen (λ cs. cs) c.args.clauses.now c.iter.ensures.clauses) in (
      tt,
      tt,
      serves_from_places road (λ x q r. search rules)
          (λ x k less is. let here : AllByRecursion (Literal 2000) x.lits.now = subst (λ d. AllByRecursion (Literal 2000) d.lits) (sym is) (All-get_or _ c.args.clauses.now k (clause_seen x) less c.requires.ranged) in search rules),
    )

pub returns : goal.returns
returns c row long =
    let all = c.args.clauses.now in
    let road = YieldsList-at c.filter.ensures.source (YieldsList-from_first clause_seen (λ cs. cs) all c.iter.ensures.clauses) in
    let wanting = count_from_yields_List _ _ c.count-fresh.ensures.ran (YieldsList-from_filter _ (wants_fresh all) road c.filter.ensures.closure (λ x b q k. search rules)) in
    omega (arith, length_closed_row all row all)
