-- The tables of group detection, literal by literal and clause by clause. Assumes nothing.
use Rattle.std.proofs.Common.{◌≡◌, ℕ, ◌+◌, ◌<◌, ◌≤◌, min, Bool, false, ◌||◌, List, get_or, replicate, ap, ◌∙◌, arith}
use Rattle.std.proofs.lemmas.List.{get_or-replicate}
use Rattle.sheet.specs.Literals.{has}
use Rattle.sheet.specs.Clauses.{Clause}
use Rattle.meaning.specs.Calls.{softs_naming, in_hard}
use Rattle.closing.specs.declared.survey.Survey.{Survey}
use Rattle.closing.specs.Surveys.{namings}

-- The counts so far and the literals left make the counts that all the literals are to make.
abbrev pub Counting : (before naming ws rest : List ℕ) → Type 0
Counting before naming ws rest = (i : ℕ) → i < 2001 → min 2 (get_or naming i 0 + namings i rest) ≡ min 2 (get_or before i 0 + namings i ws)

-- an item is denied by the literals so far or by one of those left
abbrev pub Denying : (before denials : List Bool) (ws rest : List ℕ) → Type 0
Denying before denials ws rest = (i : ℕ) → i < 2001 → (get_or denials i false || has (i + 32768) rest) ≡ (get_or before i false || has (i + 32768) ws)

-- The tables so far and the clauses left make the tables of all the clauses.
pub record Surveying (all rest : List Clause) (t : Survey) : Type 0 where
  pub naming : (i : ℕ) → i < 2001 → min 2 (get_or t.naming i 0 + softs_naming i rest) ≡ min 2 (softs_naming i all)
  pub denials : (i : ℕ) → i < 2001 → (get_or t.denials i false || in_hard (i + 32768) rest) ≡ in_hard (i + 32768) all

pub capped_none : (i : ℕ) → i < 2001 → get_or (replicate 2001 0) i 0 ≤ 2
capped_none i less = omega (arith, get_or-replicate {A = ℕ} 2001 i 0 0 less)

pub surveying_none : (all : List Clause) (t : Survey) → t.naming ≡ replicate 2001 0 → t.denials ≡ replicate 2001 false → Surveying all all t
surveying_none all t counts notes = record {
  naming = λ i less. omega (arith, ap (λ ns. get_or ns i 0) counts, get_or-replicate {A = ℕ} 2001 i 0 0 less);
  denials = λ i less. ap (λ b. b || in_hard (i + 32768) all) (ap (λ bs. get_or bs i false) notes ∙ get_or-replicate 2001 i false false less);
}
