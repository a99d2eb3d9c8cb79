use Rattle.std.proofs.lemmas.Cmp.{ranked}
use Rattle.std.proofs.Common.{Less, Equal, Greater, get_or, sym, ◌∙◌}
use Rattle.subsumption.proofs.Insides.{inside_past, inside_stop, inside_behind, inside_both}
use Rattle.subsumption.proofs.is_inside.Goals as goal
use Rattle.subsumption.proofs.is_inside.Goals.{in-Equal, in-Greater}

pub returns-in-Less : goal.returns-in-Less
returns-in-Less c =
    let x = c.in-Some.first.now in
    let ys = c.args.sup.now in
    let i = c.loop-w.w-index in
    let here = rw c.in-Some.ensures.cases.0 at c.loop-w.invariant in
    sym (inside_stop x c.in-Some.rest.now ys i c.loop-w-test.true c.requires.sup (ranked x (get_or ys i 0) Less c.in-Less.ensures)) ∙ here.1

pub loop-w-preserved : goal.loop-w-preserved
loop-w-preserved c =
    let x = c.in-Some.first.now in
    let xs = c.in-Some.rest.now in
    let ys = c.args.sup.now in
    let i = c.loop-w.w-index in
    let some = c.in-Some.ensures.cases.0 in
    let here = rw some at c.loop-w.invariant in
    elim c.match-cmp.branch [
      | in-Equal w ↦ rw w.left-is (here.0.1, sym (inside_both x xs ys i c.loop-w-test.true here.0 (ranked x (get_or ys i 0) Equal w.in-Equal.ensures)) ∙ here.1)
      | in-Greater w ↦ rw (w.left-is, some) (here.0, sym (inside_behind x xs ys i c.loop-w-test.true here.0 (ranked x (get_or ys i 0) Greater w.in-Greater.ensures)) ∙ here.1)
    ]

pub returns : goal.returns
returns c = c.is_empty.ensures ∙ inside_past c.loop-w.left.now c.args.sup.now c.loop-w.w-index c.loop-w-test.false ∙ c.loop-w.invariant.1
