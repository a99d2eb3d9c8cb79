use Rattle.std.proofs.Common.{◌≡◌, ℕ, ◌<◌, ◌≤◌, cond, get_or}
use Rattle.sheet.specs.Rows.{absent, is_live}
use Rattle.unwinding.specs.Bytes.{Bits}
use Rattle.unwinding.proofs.bytes.reset_retired.Given as goal

abbrev pub invariant-loop-i : goal.invariant-loop-i
invariant-loop-i l = record {
  before : (k : ℕ) → k < l.i → get_or l.answer k 0 ≡ cond (is_live (get_or l.row k absent).standing) (get_or l.initial.answer k 0) 0;
  behind : (k : ℕ) → l.i ≤ k → get_or l.answer k 0 ≡ get_or l.initial.answer k 0;
  bits : Bits l.answer;
}
