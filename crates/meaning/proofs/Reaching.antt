-- Every sheet that calls reach is faithful to the clauses that they accepted. Assumes nothing.
use Rattle.std.proofs.Common.{List}
use Rattle.weight.specs.Kind.{Kind, Lawful}
use Rattle.sheet.specs.Sheets.{Sheet}
use Rattle.meaning.specs.Accepted.{Accepted}
use Rattle.meaning.specs.Calls.{Stage, gathering, working, delivered, Reached, by_open, by_add, by_close, by_run, by_deliver, by_settle}
use Rattle.meaning.specs.LeastCosts.{Faithful, CallsStayFaithful}
use Rattle.meaning.proofs.Ordinals.{AllLabelled}
use Rattle.meaning.proofs.Gathering.{Gathered, open_gathered, add_gathered, gathered_faithful}
use Rattle.meaning.proofs.Closing.{closed_faithful, closed_labelled}
use Rattle.meaning.proofs.Runs.{run_faithful, run_labelled}

-- what the calls keep at each stage
abbrev Kept : {V : Type 0} → Kind V → Stage → List (Accepted V) → Sheet V → Type 0
Kept k gathering acc s = Gathered k acc s
Kept k working acc s = Faithful k acc s × AllLabelled s
Kept k delivered acc s = Faithful k acc s × AllLabelled s

module _ {V : Type 0} {k : Kind V} (laws : Lawful k) where
  kept : {stage : Stage} {acc : List (Accepted V)} {s : Sheet V} → Reached k stage acc s → Kept k stage acc s
  kept (by_open {n = n} small is) = rw is (open_gathered n small)
  kept (by_add before added) = add_gathered laws _ _ (kept before) _ _ added
  kept (by_close before is) = let g = kept before in rw is (closed_faithful laws _ _ g, closed_labelled laws _ _ g)
  kept (by_run before run) = let old = kept before in (run_faithful laws _ old.1 old.0 run, run_labelled run old.1)
  kept (by_deliver before) = kept before
  kept (by_settle before) = kept before

  pub reached_faithful : CallsStayFaithful k
  reached_faithful gathering acc s reached = gathered_faithful laws acc s (kept reached)
  reached_faithful working acc s reached = let sheet = kept reached in sheet.0
  reached_faithful delivered acc s reached = let sheet = kept reached in sheet.0
