use Rattle.session.proofs.Unwinds.{exact_ok}
use Rattle.session.proofs.delivered.unwind.unwind_costed.Goals as goal

pub unwrap-sent-requires : goal.unwrap-sent-requires
unwrap-sent-requires g c = exact_ok g.W.Weight.kind g.W.Weight.value _ _ c.cost.ensures (c.requires.sheet_within _)

pub unwrap-paid-requires : goal.unwrap-paid-requires
unwrap-paid-requires g c = exact_ok g.W.Weight.kind g.W.Weight.value _ _ c.cost-2.ensures (c.requires.paid_within _)
