use Rattle.std.proofs.Common.{rules, tests}
use Rattle.std.proofs.lemmas.Iterator.{YieldsList-from_slice}
use Rattle.sheet.specs.Together.{Stands}
use Rattle.checking.proofs.Passing.{all_decides}
use Rattle.checking.proofs.literals.all_stand.Goals as goal

pub returns : goal.returns
returns c = all_decides (Stands c.args.phase c.args.items c.args.row.now) _ _ _ c.all.ensures.ran (YieldsList-from_slice c.args.lits.now cc) (λ x b q k. search (rules, tests))
