-- Handing a working sheet over, and taking it back. Assumes nothing.
use Rattle.std.specs.Prelude.{List}
use Rattle.weight.specs.declared.kind.Weight.{Ghosts}
use Rattle.sheet.specs.Sheets.{Lent, decoded}
use Rattle.meaning.specs.Accepted.{Accepted}
use Rattle.meaning.specs.Calls.{Stage, working, delivered, Reached}
use Rattle.meaning.specs.LeastCosts.{Faithful}

-- From a sheet that calls reached at one stage, with these clauses accepted, a call reaches one at another, and that is faithful to them.
abbrev pub PassesOn : {W : Type 0} (m : Ghosts W) → Stage → Stage → Lent W → Lent W → Type 0
PassesOn m from to b c = (acc : List (Accepted m.Value)) → Reached m.kind from acc (decoded m b) → Reached m.kind to acc (decoded m c) × Faithful m.kind acc (decoded m c)

abbrev pub DeliverFaithful : {W : Type 0} (m : Ghosts W) → Lent W → Lent W → Type 0
DeliverFaithful m b c = PassesOn m working delivered b c

abbrev pub SettleFaithful : {W : Type 0} (m : Ghosts W) → Lent W → Lent W → Type 0
SettleFaithful m b c = PassesOn m delivered working b c
