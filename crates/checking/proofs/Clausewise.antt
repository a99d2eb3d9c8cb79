-- What the sheet's part asks of the clauses, clause by clause. Assumes nothing.
use Rattle.std.proofs.Common.{◌≡◌, ℕ, ◌<◌, true, Bool, List, [], ◌∷◌, take, Decides, ap, ◌∙◌}
use Rattle.std.specs.List.{AllByRecursion}
use Rattle.std.proofs.ByRecursion.{All-append, All-weaker}
use Rattle.std.proofs.lemmas.Bool.Decides.{Decides-like}
use Rattle.sheet.specs.declared.buffers.Phase.{Phase}
use Rattle.sheet.specs.declared.row.Item.{Item}
use Rattle.sheet.specs.Clauses.{Clause, Laid, clauses, ordinal_of, soft_ordinals}
use Rattle.sheet.specs.Sheets.{Fits, Lent, used_clauses}
use Rattle.sheet.specs.Together.{Distinct, SheetHolds, Stands, of_phase}
use Rattle.checking.specs.Standing.{ClauseStands}
use Rattle.checking.proofs.Passing.{all_parts}

module _ (phase : Phase) (items softs : ℕ) (row : List Item) where
  each_ranged : (cs : List Clause) → AllByRecursion (ClauseStands phase items softs row) cs → AllByRecursion (λ n. n < softs) (soft_ordinals cs)
  each_ranged [] h = tt
  each_ranged (c ∷ cs) h = All-append _ (ordinal_of c.tag) (soft_ordinals cs) h.0.ranged (each_ranged cs h.1)

  each_stands : (cs : List Clause) → AllByRecursion (λ c. of_phase phase c.tag ≡ true) cs → AllByRecursion (λ c. AllByRecursion (Stands phase items row) c.lits) cs → AllByRecursion (λ n. n < softs) (soft_ordinals cs) → AllByRecursion (ClauseStands phase items softs row) cs
  each_stands [] kinds literals ranged = tt
  each_stands (c ∷ cs) kinds literals ranged =
      let p = all_parts (λ n. n < softs) (ordinal_of c.tag) (soft_ordinals cs) ranged in
      (record { kind = kinds.0; ranged = p.0; literals = literals.0 }, each_stands cs kinds.1 literals.1 p.1)

-- the words in use, and the clauses that they are read as
module _ {W : Type 0} (phase : Phase) (b : Lent W) {ws : List ℕ} {cs : List Clause} (words : ws ≡ take b.marks.sheet b.sheet) (read : cs ≡ clauses ws) where
  same : cs ≡ used_clauses b
  same = read ∙ ap clauses words

  pub sheet_stands : SheetHolds phase b → AllByRecursion (ClauseStands phase b.counts.items b.counts.softs b.row) cs
  sheet_stands h = rw same (each_stands phase b.counts.items b.counts.softs b.row (used_clauses b) h.kinds h.literals h.ranged)

  module _ (fits : Fits b.marks.sheet b.sheet) (laid : Laid ws) (stand : AllByRecursion (ClauseStands phase b.counts.items b.counts.softs b.row) cs) where
    pub sheet_from : Distinct (soft_ordinals cs) → SheetHolds phase b
    sheet_from apart = record {
      fits = fits;
      laid = rw words at laid;
      kinds = rw same at (All-weaker _ _ (λ c s. s.kind) cs stand);
      literals = rw same at (All-weaker _ _ (λ c s. s.literals) cs stand);
      ranged = rw same at (each_ranged phase b.counts.items b.counts.softs b.row cs stand);
      apart = rw same at apart;
    }

    pub sheet_decides : (r : Bool) → Decides r (Distinct (soft_ordinals cs)) → Decides r (SheetHolds phase b)
    sheet_decides r apart = Decides-like r sheet_from (λ h. rw same h.apart) apart
