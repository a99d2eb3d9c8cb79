-- A sheet that is handed over or taken back is the same sheet. Assumes nothing.
use Rattle.std.proofs.Common.{◌≡◌, sym, subst}
use Rattle.weight.specs.Kind.{Lawful}
use Rattle.weight.specs.declared.kind.Weight.{Ghosts}
use Rattle.sheet.specs.Sheets.{Lent, decoded}
use Rattle.meaning.specs.Calls.{Reached, working, delivered, by_deliver, by_settle}
use Rattle.meaning.proofs.Reaching.{reached_faithful}
use Rattle.session.specs.Delivering.{DeliverFaithful, SettleFaithful}

module _ {W : Type 0} (m : Ghosts W) (laws : Lawful m.kind) (b c : Lent W) (same : c ≡ b) where
  pub deliver_faithful : DeliverFaithful m b c
  deliver_faithful acc reached =
      let next : Reached m.kind delivered acc (decoded m c) = subst (λ x. Reached m.kind delivered acc (decoded m x)) (sym same) (by_deliver reached) in
      (next, reached_faithful laws delivered _ _ next)

  pub settle_faithful : SettleFaithful m b c
  settle_faithful acc reached =
      let next : Reached m.kind working acc (decoded m c) = subst (λ x. Reached m.kind working acc (decoded m x)) (sym same) (by_settle reached) in
      (next, reached_faithful laws working _ _ next)
