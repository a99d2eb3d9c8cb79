use Rattle.std.proofs.Common.{◌∙◌, eqb, rules, tests}
use Rattle.std.proofs.lemmas.Iterator.{YieldsList-from_slice}
use Rattle.std.proofs.lemmas.Iterator.Search.{any_from_yields_List}
use Rattle.sheet.proofs.Members.{has_is_any}
use Rattle.sheet.proofs.literal.is_one_of_few.Goals as goal

pub returns : goal.returns
returns c =
    any_from_yields_List (λ x. eqb x c.args.w) _ _ _ c.any.ensures.ran (YieldsList-from_slice c.args.lits.now (cc)) (λ x b q k. search (rules, tests)) ∙ has_is_any c.args.w c.args.lits.now
