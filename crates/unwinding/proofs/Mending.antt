-- Records followed from the newest to the oldest. Assumes nothing.
use Rattle.std.proofs.Common.{◌≡◌, ℕ, List, [], ◌∷◌, ◌++◌, ap, ◌∙◌, subst}
use Rattle.std.specs.List.{AllByRecursion}
use Rattle.sheet.specs.Literals.{Literal}
use Rattle.sheet.specs.Records.{Record, ValidRecord}
use Rattle.meaning.specs.Answers.{Values}
use Rattle.meaning.specs.Unwinding.{mended, unwound}
use Rattle.meaning.proofs.Inserting.{has_all}
use Rattle.meaning.proofs.Mending.{unwound_append}

all_back : {X : Type 0} (P : X → Type 0) (xs : List X) (x : X) → AllByRecursion P (xs ++ x ∷ []) → AllByRecursion P xs × P x
all_back P [] x h = (tt, h.0)
all_back P (y ∷ xs) x h = let p = all_back P xs x h.1 in ((h.0, p.0), p.1)

-- the newest of the records that are left
module _ {left : List Record} (rest : List Record) (r : Record) (newest : left ≡ rest ++ r ∷ []) where
  pub unwound_newest : (v : Values) → unwound left v ≡ unwound rest (mended r v)
  unwound_newest v = ap (λ rs. unwound rs v) newest ∙ unwound_append rest (r ∷ []) v

  pub both : (P : Record → Type 0) → AllByRecursion P left → AllByRecursion P rest × P r
  both P all = all_back P rest r (subst (AllByRecursion P) newest all)

  pub witness_literal : (n : ℕ) → AllByRecursion ValidRecord left → AllByRecursion (λ r. AllByRecursion (Literal n) r.lits) left → Literal n r.witness
  witness_literal n valid literals = has_all (Literal n) r.witness r.lits (both _ valid).1.witness (both _ literals).1
