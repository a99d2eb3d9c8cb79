-- What is made at the first place is made of the first spot. Assumes nothing.
use Rattle.std.proofs.Common.{◌≡◌, ℕ, Bool, List, [], ◌∷◌, ◌++◌, Some, None, Option, refl, subst}
use Rattle.std.specs.Option.{option_map, option_or}
use Rattle.sheet.specs.Clauses.{Clause}
use Rattle.sheet.specs.Sheets.{Lent}
use Rattle.steps.specs.Places.{first_made, first_word}
use Rattle.places.specs.Spots.{Spot, spot, spotted, first_spot, FoundIn}
use Rattle.places.specs.Asking.{Asked}
use Rattle.places.specs.declared.Found.{Found}

module _ {Y : Type 0} (test : List ℕ → ℕ → Bool) (make : Spot → Y) where
  -- made of the lowest literal of c that passes
  abbrev pub made_of : List Clause → Clause → List Clause → Option Y
  made_of before c rest = option_map (λ w. make (spot before c rest w)) (first_word (test c.lits) c.lits)

  made_from : (before cs : List Clause) → first_made made_of before cs ≡ option_map make (first_made (spotted test) before cs)
  made_from before [] = refl
  made_from before (c ∷ rest) = one (first_word (test c.lits) c.lits) (first_made (spotted test) (before ++ c ∷ []) rest) (made_from (before ++ c ∷ []) rest)
    where
      one : (o : Option ℕ) {x : Option Y} (y : Option Spot) → x ≡ option_map make y → option_or (option_map (λ w. make (spot before c rest w)) o) x ≡ option_map make (option_or (option_map (spot before c rest) o) y)
      one None y same = same
      one (Some w) y same = refl

  pub first_made_lem : (cs : List Clause) → first_made made_of [] cs ≡ option_map make (first_spot test cs)
  first_made_lem cs = made_from [] cs

-- what was found in buffers that stand for the same
pub seen_found : {W : Type 0} {b c : Lent W} (asked : Asked) (o : Option Found) → FoundIn asked b o → b ≡ c → FoundIn asked c o
seen_found asked o found same = subst (λ d. FoundIn asked d o) same found
