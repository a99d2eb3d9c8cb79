use Rattle.std.proofs.Common.{◌≡◌, ℕ, false, cond, get_or, take}
use Rattle.sheet.specs.Literals.{has}
use Rattle.marking.proofs.set_all.Given as goal

abbrev pub invariant-loop-w : goal.invariant-loop-w
invariant-loop-w l = (w : ℕ) → get_or l.table w false ≡ cond (has w (take l.w-index l.lits)) l.flag (get_or l.initial.table w false)
