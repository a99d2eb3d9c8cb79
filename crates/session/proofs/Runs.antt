-- What a run reaches. Assumes nothing.
use Rattle.std.proofs.Common.{ℕ, List, Ok, Err, Result, sym, subst}
use Rattle.weight.specs.Kind.{Lawful}
use Rattle.weight.specs.declared.kind.Weight.{Ghosts}
use Rattle.sheet.specs.declared.refusal.Refusal.{Refusal}
use Rattle.sheet.specs.Sheets.{Sheet, Lent, decoded}
use Rattle.meaning.specs.declared.report.Report.{Report}
use Rattle.meaning.specs.Accepted.{Accepted}
use Rattle.meaning.specs.Calls.{working, Reached, by_run}
use Rattle.meaning.specs.Steps.{Runs}
use Rattle.meaning.proofs.Reaching.{reached_faithful}
use Rattle.steps.specs.Rooms.{Room}
use Rattle.rules.specs.Answering.{RunAnswered}
use Rattle.session.specs.Running.{RunFaithful}

module _ {W : Type 0} (m : Ghosts W) (rule : Room → Runs (Sheet m.Value)) (limit : ℕ) (b c : Lent W) where
  run_reaches : (r : Result Report Refusal) → RunAnswered m rule limit b c r → (acc : List (Accepted m.Value)) → Reached m.kind working acc (decoded m b) → Reached m.kind working acc (decoded m c)
  run_reaches (Ok r) went acc reached = by_run reached went.ran.meaning
  run_reaches (Err e) refused acc reached = subst (λ x. Reached m.kind working acc (decoded m x)) (sym refused.1) reached

  pub run_faithful : Lawful m.kind → (r : Result Report Refusal) → RunAnswered m rule limit b c r → RunFaithful m b c
  run_faithful laws r answered acc reached =
      let then = run_reaches r answered acc reached in
      (then, reached_faithful laws working acc (decoded m c) then)
