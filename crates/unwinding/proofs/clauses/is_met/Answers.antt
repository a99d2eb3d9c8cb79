use Rattle.std.proofs.Common.{◌∙◌, rules, tests}
use Rattle.std.proofs.lemmas.Iterator.{YieldsList-from_slice}
use Rattle.std.proofs.lemmas.Iterator.Search.{any_from_yields_List}
use Rattle.meaning.specs.Answers.{is_true}
use Rattle.unwinding.specs.Bytes.{values_of}
use Rattle.unwinding.proofs.Meeting.{met_is_any}
use Rattle.unwinding.proofs.clauses.is_met.Goals as goal

pub returns : goal.returns
returns c =
    let v = values_of c.args.answer.now in
    any_from_yields_List (is_true v) _ _ _ c.any.ensures.ran (YieldsList-from_slice c.args.lits.now (cc)) (λ x b q k. search (rules, tests)) ∙ met_is_any v c.args.lits.now
