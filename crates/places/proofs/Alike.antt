-- Lists that have the same literals are alike to a test of their literals. Assumes nothing.
use Rattle.std.proofs.Common.{◌≡◌, ℕ, Bool, true, ◌&&◌, ◌||◌, List, [], ◌∷◌, refl, sym, ap, ◌∙◌}
use Rattle.std.proofs.lemmas.Bool.Decides.{same_from_decides}
use Rattle.sheet.specs.Literals.{has}
use Rattle.steps.specs.Places.{some, every}
use Rattle.steps.specs.Rewriting.{inside}
use Rattle.steps.proofs.Members.{some_in, some_from, has_in, in_has}

module _ {X : Type 0} (one other : X → Bool) (alike : (x : X) → one x ≡ other x) where
  pub some_alike : (xs : List X) → some one xs ≡ some other xs
  some_alike [] = refl
  some_alike (x ∷ xs) = ap (λ b. b || some one xs) (alike x) ∙ ap (λ b. other x || b) (some_alike xs)

  pub every_alike : (xs : List X) → every one xs ≡ every other xs
  every_alike [] = refl
  every_alike (x ∷ xs) = ap (λ b. b && every one xs) (alike x) ∙ ap (λ b. other x && b) (every_alike xs)

pub inside_among : (xs ws vs : List ℕ) → ((x : ℕ) → has x ws ≡ has x vs) → inside xs ws ≡ inside xs vs
inside_among [] ws vs same = refl
inside_among (x ∷ xs) ws vs same = ap (λ b. b && inside xs ws) (same x) ∙ ap (λ b. has x vs && b) (inside_among xs ws vs same)

module _ (test : ℕ → Bool) where
  onward : (ws vs : List ℕ) → ((x : ℕ) → has x ws ≡ has x vs) → some test ws ≡ true → some test vs ≡ true
  onward ws vs same passes =
      let found = some_in test ws passes in
      let x = found.0 in
      some_from test x vs (has_in x vs (sym (same x) ∙ in_has x ws found.1)) found.2

  pub some_among : (ws vs : List ℕ) → ((x : ℕ) → has x ws ≡ has x vs) → some test ws ≡ some test vs
  some_among ws vs same = same_from_decides (some test ws) (some test vs) (onward ws vs same, onward vs ws (λ x. sym (same x))) (λ h. h, λ h. h)
