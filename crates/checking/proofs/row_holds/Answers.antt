use Rattle.std.proofs.Common.{◌≡◌, ◌++◌, ◌≤◌, Bool, List, length, take, Decides, rules}
use Rattle.std.specs.List.{AllByRecursion}
use Rattle.std.proofs.lemmas.Bool.Decides.{Decides-like}
use Rattle.sheet.specs.Clauses.{soft_ordinals}
use Rattle.sheet.specs.declared.row.Item.{Item}
use Rattle.sheet.specs.Rows.{label_ordinals}
use Rattle.sheet.specs.Sheets.{Lent, used_clauses}
use Rattle.sheet.specs.Together.{Distinct, OrdinalOf, RowHolds}
use Rattle.checking.proofs.row_holds.Goals as goal

row_decides : {W : Type 0} (b : Lent W) (row : List Item) → (b.counts.items ≤ length b.row) × (row ≡ take b.counts.items b.row) → AllByRecursion (λ x. OrdinalOf b.counts.softs x.standing x.ordinal) row
    → (r : Bool) → Decides r (Distinct (soft_ordinals (used_clauses b) ++ label_ordinals row)) → Decides r (RowHolds b)
row_decides b row used ranged r =
    Decides-like r (λ apart. record { fits = used.0; ranged = rw used.1 at ranged; apart = rw used.1 at apart }) (λ h. rw used.1 h.apart)

pub returns-then-ordinals_fit : goal.returns-then-ordinals_fit
returns-then-ordinals_fit g c = λ noted apart. row_decides _ _ (search rules) (c.ordinals_fit.ensures.0 c.if-ordinals_fit.true) _ (c.labels_apart.ensures _ noted apart)

pub returns-else-ordinals_fit : goal.returns-else-ordinals_fit
returns-else-ordinals_fit g c = λ noted apart. search rules
