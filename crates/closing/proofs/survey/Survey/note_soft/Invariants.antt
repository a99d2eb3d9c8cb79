use Rattle.std.proofs.Common.{◌≡◌, drop}
use Rattle.closing.proofs.Tables.{Counting}
use Rattle.closing.proofs.survey.Survey.note_soft.Given as goal

abbrev pub invariant-loop-w : goal.invariant-loop-w
invariant-loop-w l = Counting l.initial.self.naming l.self.naming l.lits (drop l.w-index l.lits) × (l.self.denials ≡ l.initial.self.denials)
