use Rattle.std.proofs.Common.{rules, tests, eqb, ◌&&◌, ◌||◌, sym, ap, ◌∙◌}
use mathlib.Core.Bool.{and-true, and-false}
use Rattle.std.proofs.lemmas.Iterator.{YieldsList-from_slice}
use Rattle.std.proofs.lemmas.Iterator.Search.{all_from_yields_List}
use Rattle.sheet.specs.Literals.{has}
use Rattle.strengthening.proofs.Yielding.{all_stay}
use Rattle.strengthening.proofs.yields.Goals as goal

pub returns-then-all : goal.returns-then-all
returns-then-all c =
    let lits = c.args.marked.now in
    let other = c.args.other.now in
    let stay = all_from_yields_List (λ x. eqb x c.args.denial || has x lits) _ _ _ c.all.ensures.ran (YieldsList-from_slice other (cc)) (λ x b q k. search (rules, tests)) ∙ all_stay c.args.denial lits other in
    c.has_literal.ensures ∙ sym (ap (λ b. has c.args.denial other && b) (sym stay ∙ c.if-all.true) ∙ and-true (has c.args.denial other))

pub returns-else-all : goal.returns-else-all
returns-else-all c =
    let lits = c.args.marked.now in
    let other = c.args.other.now in
    let stay = all_from_yields_List (λ x. eqb x c.args.denial || has x lits) _ _ _ c.all.ensures.ran (YieldsList-from_slice other (cc)) (λ x b q k. search (rules, tests)) ∙ all_stay c.args.denial lits other in
    c.if-all.false ∙ sym (ap (λ b. has c.args.denial other && b) (sym stay ∙ c.if-all.false) ∙ and-false (has c.args.denial other))
