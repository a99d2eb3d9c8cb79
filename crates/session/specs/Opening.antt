-- Opening a new sheet: when it refuses, and what it leaves. Assumes nothing.
use Rattle.std.specs.Prelude.{◌≡◌, ℕ, cond, List, [], ◌++◌, length, drop, replicate, Some, None, Ok, Err, Option, Result, nat_lt}
use Rattle.weight.specs.declared.kind.Weight.{Ghosts}
use Rattle.sheet.specs.declared.buffers.Marks.{Marks}
use Rattle.sheet.specs.declared.buffers.Counts.{Counts}
use Rattle.sheet.specs.declared.row.Item.{Item}
use Rattle.sheet.specs.declared.refusal.Refusal.{Refusal}
use Rattle.sheet.specs.declared.refusal.Refusal.TheVariants.{TooManyItems, RowTooShort}
use Rattle.sheet.specs.Sheets.{Lent, decoded}
use Rattle.meaning.specs.Calls.{plain_item, gathering, Reached}
use Rattle.meaning.specs.LeastCosts.{Faithful}
use Rattle.session.specs.declared.gathering.Gathering.{Gathering}

-- why an open for so many items with a row of this length refuses
abbrev pub open_cause : ℕ → ℕ → Option Refusal
open_cause asked row_length = cond (nat_lt 2000 asked) (Some (TooManyItems asked)) (cond (nat_lt row_length asked) (Some (RowTooShort row_length)) None)

pub record NewSheet (asked : ℕ) (before after : List Item) (g : Gathering) : Type 0 where
  pub passes : open_cause asked (length before) ≡ None
  pub row : after ≡ replicate asked plain_item ++ drop asked before
  pub marks : g.marks ≡ record { sheet = 0; stack = 0 }
  pub counts : g.counts ≡ record { callers = asked; items = asked; softs = 0 }

abbrev pub Opened : ℕ → List Item → List Item → Result Gathering Refusal → Type 0
Opened asked before after (Ok g) = NewSheet asked before after g
Opened asked before after (Err e) = (open_cause asked (length before) ≡ Some e) × (after ≡ before)

-- the new sheet is one that calls reach, with nothing accepted, and faithful to that
abbrev pub OpenFaithful : {W : Type 0} (m : Ghosts W) → (Marks → Counts → Lent W) → Result Gathering Refusal → Type 0
OpenFaithful m left (Ok g) = Reached m.kind gathering [] (decoded m (left g.marks g.counts)) × Faithful m.kind [] (decoded m (left g.marks g.counts))
OpenFaithful m left (Err e) = Unit {0}
