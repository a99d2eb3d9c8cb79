use Rattle.std.proofs.Common.{rules, tests}
use Rattle.std.specs.List.{AllByRecursion}
use Rattle.sheet.specs.Literals.{Literal}
use Rattle.sheet.specs.Views.{record_seen}
use Rattle.checking.proofs.Passing.{all_decides, turned_decides, YieldsList-from_last}
use Rattle.checking.proofs.records.records_stand.Goals as goal

pub returns : goal.returns
returns c =
    turned_decides _ _ _
    (all_decides (λ r. AllByRecursion (Literal c.args.items) r.lits) _ _ _ c.all.ensures.ran
    (YieldsList-from_last record_seen (λ rs. rs) c.args.records.now c.iter.ensures.records)
    (λ x b q k. search (rules, tests)))
