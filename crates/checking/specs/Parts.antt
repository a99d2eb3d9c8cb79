-- What is answered for the row. Assumes nothing.
use Rattle.std.specs.Prelude.{Bool, Decides}
use Rattle.sheet.specs.Clauses.{soft_ordinals}
use Rattle.sheet.specs.Sheets.{Lent, used_clauses}
use Rattle.sheet.specs.Together.{Distinct, RowHolds}
use Rattle.checking.specs.Noted.{Noted}
use Rattle.checking.specs.declared.seen.Seen.{Seen}

-- where the table notes the sheet's softs
abbrev pub RowAnswer : {W : Type 0} → Seen → Lent W → Bool → Type 0
RowAnswer seen b r = Noted seen (soft_ordinals (used_clauses b)) → Distinct (soft_ordinals (used_clauses b)) → Decides r (RowHolds b)
