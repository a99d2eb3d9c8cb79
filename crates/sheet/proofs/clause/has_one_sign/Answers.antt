use Rattle.std.proofs.lemmas.Cmp.{ranked}
use Rattle.std.proofs.Common.{inl, inr, arith, get_or, ◌-◌, Less, Greater, Equal}
use Rattle.sheet.proofs.Deciding.{accepts, refuses}
use Rattle.sheet.proofs.Signs.{merged_all, merged_both, merged_denied, merged_plain}
use Rattle.sheet.proofs.clause.has_one_sign.Goals as goal

pub loop-plain-preserved-in-Less : goal.loop-plain-preserved-in-Less
loop-plain-preserved-in-Less c =
    let past = c.requires.parted.denied c.loop-plain.denied c.loop-plain.invariant.right c.if-denied-lits.true in
    merged_plain c.requires.rising c.requires.parted c.loop-plain.invariant c.loop-plain-test.true c.if-denied-lits.true (let h = ranked (get_or c.args.lits.now c.loop-plain.plain 0) (get_or c.args.lits.now c.loop-plain.denied 0 - 32768) Less c.in-Less.ensures in omega (arith, past, h))

pub loop-plain-preserved : goal.loop-plain-preserved
loop-plain-preserved c =
    let past = c.requires.parted.denied c.loop-plain.denied c.loop-plain.invariant.right c.if-denied-lits.true in
    merged_denied c.requires.rising c.requires.parted c.loop-plain.invariant c.loop-plain-test.true c.if-denied-lits.true (let h = ranked (get_or c.args.lits.now c.loop-plain.plain 0) (get_or c.args.lits.now c.loop-plain.denied 0 - 32768) Greater c.in-Greater.ensures in omega (arith, past, h))

pub returns-in-Equal : goal.returns-in-Equal
returns-in-Equal c =
    let past = c.requires.parted.denied c.loop-plain.denied c.loop-plain.invariant.right c.if-denied-lits.true in
    refuses (merged_both c.requires.rising c.requires.parted c.loop-plain.invariant c.loop-plain-test.true c.if-denied-lits.true (let h = ranked (get_or c.args.lits.now c.loop-plain.plain 0) (get_or c.args.lits.now c.loop-plain.denied 0 - 32768) Equal c.in-Equal.ensures in omega (arith, past, h)))

pub returns-else-denied-lits : goal.returns-else-denied-lits
returns-else-denied-lits c = accepts (merged_all c.requires.parted c.loop-plain.invariant (inr (omega arith)) (λ k. omega (arith, c.type_inv.lits k)))

pub returns-after-loop-plain : goal.returns-after-loop-plain
returns-after-loop-plain c = accepts (merged_all c.requires.parted c.loop-plain.invariant (inl (omega arith)) (λ k. omega (arith, c.type_inv.lits k)))
