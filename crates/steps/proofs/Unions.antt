-- The union of ascending words, by its members. Assumes nothing.
use Rattle.std.proofs.Common.{◌≡◌, ℕ, ◌||◌, eqb, ◌⊎◌, List, [], ◌∷◌, sym, refl, ap, ◌∙◌, inl, inr, ⊎_elim}
use mathlib.Core.Bool.{or_assoc}
use Rattle.std.proofs.lemmas.Bool.{or_cases, or_left, or_right}
use Rattle.sheet.specs.Literals.{has, Rising}
use Rattle.meaning.proofs.Inserting.{has_insert, insert_rising}
use Rattle.steps.specs.Elimination.{union}
use Rattle.steps.proofs.Members.{In, has_in, in_has}

pub has_union : (w : ℕ) (xs ys : List ℕ) → has w (union xs ys) ≡ (has w xs || has w ys)
has_union w [] ys = refl
has_union w (x ∷ xs) ys = has_insert w x (union xs ys) ∙ ap (λ b. eqb x w || b) (has_union w xs ys) ∙ sym (or_assoc (eqb x w) (has w xs) (has w ys))

pub in_union : (w : ℕ) (xs ys : List ℕ) → In w (union xs ys) → In w xs ⊎ In w ys
in_union w xs ys among = ⊎_elim (λ left. inl (has_in w xs left)) (λ right. inr (has_in w ys right)) (or_cases (has w xs) (has w ys) (sym (has_union w xs ys) ∙ in_has w (union xs ys) among))

pub in_union_left : (w : ℕ) (xs ys : List ℕ) → In w xs → In w (union xs ys)
in_union_left w xs ys among = has_in w (union xs ys) (has_union w xs ys ∙ or_left (has w xs) (has w ys) (in_has w xs among))

pub in_union_right : (w : ℕ) (xs ys : List ℕ) → In w ys → In w (union xs ys)
in_union_right w xs ys among = has_in w (union xs ys) (has_union w xs ys ∙ or_right (has w xs) (has w ys) (in_has w ys among))

pub union_rising : (xs ys : List ℕ) → Rising ys → Rising (union xs ys)
union_rising [] ys rising = rising
union_rising (x ∷ xs) ys rising = insert_rising x (union xs ys) (union_rising xs ys rising)
