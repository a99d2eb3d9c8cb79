use Rattle.std.proofs.Common.{sym, ◌∙◌, arith, rules}
use Rattle.std.proofs.lemmas.Bool.{lt-leb}
use Rattle.sheet.specs.Views.{clause_seen}
use Rattle.elimination.proofs.Pairing.{count_from, rising_first}
use Rattle.elimination.proofs.count.is_bounded.Goals as goal

pub loop-clause-preserved-in-Some-spent : goal.loop-clause-preserved-in-Some-spent
loop-clause-preserved-in-Some-spent c =
    let more = count_from c.args.x c.args.clauses.now (clause_seen c.in-Some.clause) c.next.new.self _ _ (c.mark.ensures.ascending (rising_first c.loop-clause.invariant.valid c.in-Some.ensures.steps)) c.in-Some.ensures.steps (sym c.has_literal.ensures ∙ c.if-has_literal.true) in
    record { clear = c.unmark.ensures.none c.mark.ensures.members; valid = search rules; rest = omega (arith, c.loop-clause.invariant.rest, c.in-Some-spent.ensures) }

pub returns-in-None-spent-clause-bounded : goal.returns-in-None-spent-clause-bounded
returns-in-None-spent-clause-bounded c =
    let more = count_from c.args.x c.args.clauses.now (clause_seen c.in-Some.clause) c.next.new.self _ _ (c.mark.ensures.ascending (rising_first c.loop-clause.invariant.valid c.in-Some.ensures.steps)) c.in-Some.ensures.steps (sym c.has_literal.ensures ∙ c.if-has_literal.true) in
    sym (lt-leb _ _ (omega (arith, c.loop-clause.invariant.rest, c.in-None-spent.ensures)))
