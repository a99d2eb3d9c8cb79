use Rattle.std.proofs.Common.{◌≡◌, ℕ, zero, suc, ◌<◌, ◌≤◌, cond, List, length, get_or, take, refl, inl, inr, arith}
use mathlib.Core.Path.{fun_ext}
use Rattle.std.proofs.lemmas.Bool.{cases_lt}
use Rattle.std.proofs.lemmas.Grind.{common_steps}
use Rattle.sheet.specs.declared.row.Item.{Item}
use Rattle.sheet.specs.Rows.{absent, is_live}
use Rattle.meaning.specs.Unwinding.{reset}
use Rattle.unwinding.specs.Bytes.{values_of}
use Rattle.unwinding.proofs.bytes.reset_retired.Goals as goal

-- the bytes sent, and what they have become
module _ (row : List Item) (sent answer : List ℕ) (rows : length sent ≤ length row) (long : length answer ≡ length sent) where
  reset_all : ((k : ℕ) → k < length sent → get_or answer k 0 ≡ cond (is_live (get_or row k absent).standing) (get_or sent k 0) 0) → values_of answer ≡ reset (take (length sent) row) (values_of sent)
  reset_all each = fun_ext same
    where
      same : (n : ℕ) → values_of answer n ≡ reset (take (length sent) row) (values_of sent) n
      same zero = refl
      same (suc k) = elim (cases_lt k (length sent)) [
        | inl inside ↦ let e = each k inside in grind (arith, common_steps)
        | inr past ↦ grind (arith, common_steps)
      ]

pub returns-clause-reset : goal.returns-clause-reset
returns-clause-reset c = reset_all _ _ c.loop-i.answer c.requires.row c.loop-i.auto.answer (λ k inside. c.loop-i.invariant.before k (omega arith))
