use Rattle.std.proofs.Common.{◌≤◌, length, sym, ap, ◌∙◌, subst}
use Rattle.sheet.specs.Sheets.{lent}
use Rattle.meaning.specs.Calls.{tautology}
use Rattle.sending.proofs.Normals.{normal_short}
use Rattle.sending.proofs.Refusing.{none_bad, in_range_wider}
use Rattle.session.proofs.Accepting.{hard_stored, soft_stored}
use Rattle.session.proofs.Causes.{none_from_ok}
use Rattle.session.proofs.gathering.Gathering.take.Goals as goal

pub of-flags-requires : goal.of-flags-requires
of-flags-requires g c =
    let good = sym c.first_bad.ensures ∙ c.in_default.is in
    in_range_wider _ _ _ c.args.self.now.few (none_bad _ 0 _ good)

pub store-requires-clause-few : goal.store-requires-clause-few
store-requires-clause-few g c =
    let good = sym c.first_bad.ensures ∙ c.in_default.is in
    subst (λ ws. length ws ≤ 4000) (sym c.of-flags.ensures) (normal_short _ c.args.lits.now c.args.self.now.few (none_bad _ 0 _ good))

pub store-requires-in-Soft-clause-few : goal.store-requires-in-Soft-clause-few
store-requires-in-Soft-clause-few g c =
    let good = sym c.first_bad.ensures ∙ c.in_default.is in
    subst (λ ws. length ws ≤ 4000) (sym c.of-flags.ensures) (normal_short _ c.args.lits.now c.args.self.now.few (none_bad _ 0 _ good))

pub returns-in_ok-self-in-Hard : goal.returns-in_ok-self-in-Hard
returns-in_ok-self-in-Hard g c =
    let b = lent c.args.sheet.now c.args.row.now c.args.stack.now c.args.weights.now c.args.self.now.marks c.args.self.now.counts in
    let good = sym c.first_bad.ensures ∙ c.in_default.is in
    let plain = ap tautology (sym c.of-flags.ensures) ∙ sym c.is_tautology.ensures ∙ c.if-is_tautology.false in
    hard_stored g.W.Weight b c.args.lits.now c.args.claim c.in_ok-holds_together.ensures good c.args.self.now.few plain c.of-flags.result c.of-flags.ensures c.store.new.sheet c.in-Hard.is c.in_ok-self-in-Hard.field-0 c.in_ok-self-in-Hard.ensures

pub returns-in_ok-self-in-Soft : goal.returns-in_ok-self-in-Soft
returns-in_ok-self-in-Soft g c =
    let b = lent c.args.sheet.now c.args.row.now c.args.stack.now c.args.weights.now c.args.self.now.marks c.args.self.now.counts in
    let good = sym c.first_bad.ensures ∙ c.in_default.is in
    let plain = ap tautology (sym c.of-flags.ensures) ∙ sym c.is_tautology.ensures ∙ c.if-is_tautology.false in
    let none = none_from_ok _ (sym c.soft_fits.ensures ∙ c.in_ok-soft_fits-in-Soft.was) in
    soft_stored g.W.Weight b c.args.lits.now c.args.claim c.in_ok-holds_together.ensures good c.args.self.now.few plain c.of-flags.result c.of-flags.ensures c.store-in-Soft.new.sheet c.in-Soft.w c.in-Soft.is none c.in_ok-self-in-Soft.field-0 c.in_ok-self-in-Soft.ensures
