-- Clauses that are met, by their literals, and lists of clauses, by their members. Assumes nothing.
use Rattle.std.proofs.Common.{◌≡◌, ℕ, Bool, true, false, List, [], ◌∷◌, ◌++◌, sym, refl, ap, ◌∙◌, inl, inr, ⊎_elim}
use Rattle.std.specs.List.{AllByRecursion}
use Rattle.std.proofs.lemmas.Bool.{both_ways, cases_Bool, and_parts, and_from, or_cases, or_left, or_right}
use Rattle.sheet.specs.declared.clause.Tag.{Tag}
use Rattle.sheet.specs.declared.clause.Tag.TheVariants.{Hard, Soft, Working}
use Rattle.sheet.specs.Clauses.{Clause}
use Rattle.meaning.specs.Answers.{Values, is_true, met, kept_as, meets_all}
use Rattle.steps.proofs.Members.{In, Parts, part_or_others}

-- a literal that is true
pub met_by : (v : Values) (ws : List ℕ) → met v ws ≡ true → (w : ℕ) × In w ws × (is_true v w ≡ true)
met_by v [] is = absurd (both_ways false refl is)
met_by v (w ∷ ws) is = elim (or_cases (is_true v w) (met v ws) is) [
  | inl here ↦ (w, inl refl, here)
  | inr later ↦ let found = met_by v ws later in (found.0, inr found.1, found.2)
]

pub met_from : (v : Values) (w : ℕ) (ws : List ℕ) → In w ws → is_true v w ≡ true → met v ws ≡ true
met_from v w [] among is = absurd among
met_from v w (x ∷ ws) (inl here) is = or_left (is_true v x) (met v ws) (ap (is_true v) here ∙ is)
met_from v w (x ∷ ws) (inr later) is = or_right (is_true v x) (met v ws) (met_from v w ws later is)

pub unmet_false : (v : Values) (w : ℕ) (ws : List ℕ) → met v ws ≡ false → In w ws → is_true v w ≡ false
unmet_false v w ws unmet among = elim (cases_Bool (is_true v w)) [
  | inl is ↦ absurd (both_ways (met v ws) unmet (met_from v w ws among is))
  | inr not_so ↦ not_so
]

pub true_differs : (v : Values) (u w : ℕ) → is_true v u ≡ true → is_true v w ≡ false → u ≡ w → ⊥
true_differs v u w is fails same = both_ways (is_true v w) fails (ap (is_true v) (sym same) ∙ is)

-- where every true literal of the one is a true literal of the other
pub met_carried : (u v : Values) (xs ys : List ℕ) → met u xs ≡ true → ((w : ℕ) → In w xs → is_true u w ≡ true → In w ys × (is_true v w ≡ true)) → met v ys ≡ true
met_carried u v xs ys is carry = let found = met_by u xs is in let still = carry found.0 found.1 found.2 in met_from v found.0 ys still.0 still.1

pub met_inside : (v : Values) (xs ys : List ℕ) → ((w : ℕ) → In w xs → In w ys) → met v xs ≡ true → met v ys ≡ true
met_inside v xs ys inside is = met_carried v v xs ys is (λ w among so. (inside w among, so))

-- Lists of working clauses.

-- each of the clauses is met
abbrev pub MeetsEach : Values → List Clause → Type 0
MeetsEach v cs = (c : Clause) → In c cs → met v c.lits ≡ true

pub each_met : (v : Values) (cs : List Clause) → AllByRecursion (λ c. c.tag ≡ Working) cs → meets_all v cs ≡ true → MeetsEach v cs
each_met v [] working meets c among = absurd among
each_met v (d ∷ ds) working meets c among =
    let parts = and_parts (kept_as d.tag (met v d.lits)) (meets_all v ds) meets in
    ⊎_elim (λ is. ap (λ x. met v x.lits) (sym is) ∙ (rw working.0 at parts.0)) (each_met v ds working.1 parts.1 c) among

kept_met : (tag : Tag) (b : Bool) → b ≡ true → kept_as tag b ≡ true
kept_met Hard b is = is
kept_met (Soft n) b is = refl
kept_met Working b is = is

pub meets_all_lem : (v : Values) (cs : List Clause) → MeetsEach v cs → meets_all v cs ≡ true
meets_all_lem v [] each = refl
meets_all_lem v (c ∷ cs) each = and_from (kept_as c.tag (met v c.lits)) (meets_all v cs) (kept_met c.tag (met v c.lits) (each c (inl refl))) (meets_all_lem v cs (λ d among. each d (inr among)))

-- one of the clauses is met, and each of the others
pub each_with : {c : Clause} {before rest all : List Clause} (v : Values) → Parts before c rest all → met v c.lits ≡ true → MeetsEach v (before ++ rest) → MeetsEach v all
each_with v parts here others x among = elim (part_or_others parts x among) [
  | inl is ↦ ap (λ y. met v y.lits) (sym is) ∙ here
  | inr other ↦ others x other
]
