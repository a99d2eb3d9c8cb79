use Rattle.std.proofs.Common.{rules, tests}
use Rattle.std.proofs.lemmas.Iterator.Consumers.{YieldsList-from_first}
use Rattle.sheet.specs.Views.{clause_seen}
use Rattle.checking.specs.Standing.{ClauseStands}
use Rattle.checking.proofs.Passing.{all_decides}
use Rattle.checking.proofs.clauses.clauses_stand.Goals as goal

pub returns : goal.returns
returns c =
    all_decides (ClauseStands c.args.phase c.args.counts.items c.args.counts.softs c.args.row.now) _ _ _ c.all.ensures.ran
    (YieldsList-from_first clause_seen (λ cs. cs) c.args.clauses.now c.iter.ensures.clauses)
    (λ x b q k. search (rules, tests))
