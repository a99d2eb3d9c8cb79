-- Closing a gathered sheet: when it refuses, and what it leaves. Assumes nothing.
use Rattle.std.specs.Prelude.{◌≡◌, ℕ, ◌≤◌, cond, List, length, take, drop, Some, None, Ok, Err, Option, Result, nat_le}
use Rattle.weight.specs.declared.kind.Weight.{Ghosts}
use Rattle.sheet.specs.declared.buffers.Marks.{Marks}
use Rattle.sheet.specs.declared.buffers.Counts.{Counts}
use Rattle.sheet.specs.declared.buffers.Phase.TheVariants.{Gathering as gathered}
use Rattle.sheet.specs.declared.refusal.Refusal.{Refusal}
use Rattle.sheet.specs.declared.refusal.Refusal.TheVariants.{NoRowForLabels}
use Rattle.sheet.specs.Clauses.{Laid}
use Rattle.sheet.specs.Sheets.{Lent, decoded}
use Rattle.sheet.specs.Together.{HoldsTogether}
use Rattle.meaning.specs.Accepted.{Accepted}
use Rattle.meaning.specs.Calls.{closed, gathering, working, Reached}
use Rattle.meaning.specs.LeastCosts.{Faithful}
use Rattle.session.specs.Refusing.{Refuses}
use Rattle.session.specs.declared.gathering.Gathering.{Gathering}
use Rattle.session.specs.declared.working.Working.{Working}

-- how many items there are with the fresh labels
abbrev pub items_needed : {W : Type 0} (m : Ghosts W) → Lent W → ℕ
items_needed m b = length (closed (decoded m b)).row

-- a row of this length has no room for the items needed
abbrev pub label_cause : ℕ → ℕ → Option Refusal
label_cause needed room = cond (nat_le needed room) None (Some (NoRowForLabels needed))

-- why a close refuses where the buffers hold together
abbrev pub close_cause : {W : Type 0} (m : Ghosts W) → Lent W → Option Refusal
close_cause m b = label_cause (items_needed m b) (length b.row)

-- A close that passes, from the buffers b to the buffers c.
pub record Labelled {W : Type 0} (m : Ghosts W) (b c : Lent W) : Type 0 where
  pub together : HoldsTogether m gathered b
  pub passes : close_cause m b ≡ None
  pub after : decoded m c ≡ closed (decoded m b)
  pub laid : Laid (take c.marks.sheet c.sheet)
  -- its words never grow
  pub shorter : c.marks.sheet ≤ b.marks.sheet
  -- row records behind the items are as they were
  pub behind : drop c.counts.items c.row ≡ drop c.counts.items b.row
  pub counts : c.counts ≡ record { callers = b.counts.callers; items = items_needed m b; softs = b.counts.softs }
  pub stack : c.marks.stack ≡ b.marks.stack

-- the buffers as a state has them
abbrev pub gathered_by : {W : Type 0} → (Marks → Counts → Lent W) → Gathering → Lent W
gathered_by left g = left g.marks g.counts

abbrev pub worked_by : {W : Type 0} → (Marks → Counts → Lent W) → Working → Lent W
worked_by left w = left w.marks w.counts

-- a refused close gives its state back
abbrev pub CloseAnswered : {W : Type 0} (m : Ghosts W) → Lent W → (Marks → Counts → Lent W) → Result Working (Gathering × Refusal) → Type 0
CloseAnswered m b left (Ok w) = Labelled m b (worked_by left w)
CloseAnswered m b left (Err e) = Refuses m gathered b (close_cause m b) e.1 × (gathered_by left e.0 ≡ b)

-- From a sheet that calls reached, with these clauses accepted, a close reaches one again, and that is faithful to them.
abbrev pub CloseFaithful : {W : Type 0} (m : Ghosts W) → Lent W → (Marks → Counts → Lent W) → Result Working (Gathering × Refusal) → Type 0
CloseFaithful m b left (Ok w) = (acc : List (Accepted m.Value)) → Reached m.kind gathering acc (decoded m b) → Reached m.kind working acc (decoded m (worked_by left w)) × Faithful m.kind acc (decoded m (worked_by left w))
CloseFaithful m b left (Err e) = (acc : List (Accepted m.Value)) → Reached m.kind gathering acc (decoded m b) → Reached m.kind gathering acc (decoded m (gathered_by left e.0)) × Faithful m.kind acc (decoded m (gathered_by left e.0))
