use Rattle.std.proofs.Common.{◌≡◌, drop}
use Rattle.closing.proofs.Tables.{Denying}
use Rattle.closing.proofs.survey.Survey.note_hard.Given as goal

abbrev pub invariant-loop-w : goal.invariant-loop-w
invariant-loop-w l = (l.self.naming ≡ l.initial.self.naming) × Denying l.initial.self.denials l.self.denials l.lits (drop l.w-index l.lits)
