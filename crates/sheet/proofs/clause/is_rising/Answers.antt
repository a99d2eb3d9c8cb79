use Rattle.std.proofs.Common.{ltb, rules, tests}
use Rattle.std.proofs.lemmas.List.Sorted.{answers_always}
use Rattle.sheet.proofs.Rises.{neighbours_decide}
use Rattle.sheet.proofs.clause.is_rising.Goals as goal

pub returns : goal.returns
returns c = neighbours_decide _ _ (c.is_sorted_by.ensures.cases ltb (answers_always _ _ _ (λ f a r q k. search (rules, tests))))
