-- A loop that makes a step in each turn, over any state. Assumes nothing.
use Rattle.std.proofs.Common.{◌≡◌, ℕ, zero, suc, ◌+◌, ◌-◌, ◌<◌, ◌≤◌, Bool, true, false, cond, Some, None, Option, sym, ap, ◌∙◌, add-zero, add_assoc, zero-add, arith}
use Rattle.std.proofs.lemmas.Bool.{cond-true, cond-false}
use Rattle.meaning.specs.declared.report.Ending.TheVariants.{Done, Limit, Full}
use Rattle.meaning.specs.Running.{Outcome}
use Rattle.meaning.specs.Steps.{outcome, following, at_limit, one_more_of, repeated_step}

-- steps made before none, and before others
pub following_none : {X : Type 0} (o : Outcome X) → following 0 o ≡ o
following_none o = ap (λ n. outcome n o.ending o.left) (zero-add o.steps)

pub following_both : {X : Type 0} (a b : ℕ) (o : Outcome X) → following a (following b o) ≡ following (a + b) o
following_both a b o = ap (λ n. outcome n o.ending o.left) (sym (add_assoc a b o.steps))

module _ {X : Type 0} (step : X → Option X) (fits : X → Bool) where
  -- Some steps led from s to t, and the run from s is those, and then the run from t.
  pub record Turning (limit : ℕ) (s t : X) (steps : ℕ) : Type 0 where
    pub spent : steps ≤ limit
    pub rest : repeated_step step fits limit s ≡ following steps (repeated_step step fits (limit - steps) t)

  pub turning_none : (limit : ℕ) (s : X) → Turning limit s s 0
  turning_none limit s =
      let all : limit - 0 ≡ limit = omega arith in
      record { spent = omega arith; rest = sym (following_none (repeated_step step fits (limit - 0) s) ∙ ap (λ n. repeated_step step fits n s) all) }

  ended : (n : ℕ) (t : X) → step t ≡ None → repeated_step step fits n t ≡ outcome 0 Done t
  ended zero t none = ap (at_limit t) none
  ended (suc n) t none = ap (one_more_of t (fits t) (repeated_step step fits n)) none

  module _ {limit : ℕ} {s t : X} {steps : ℕ} (turning : Turning limit s t steps) where
    pub turning_done : step t ≡ None → outcome steps Done t ≡ repeated_step step fits limit s
    turning_done none = sym (turning.rest ∙ ap (following steps) (ended (limit - steps) t none) ∙ ap (λ n. outcome n Done t) (add-zero steps))

    -- there is a place
    module _ (u : X) (some : step t ≡ Some u) where
      pub turning_limit : steps ≡ limit → outcome steps Limit t ≡ repeated_step step fits limit s
      turning_limit all =
          let none : limit - steps ≡ 0 = omega arith in
          sym (turning.rest ∙ ap (λ n. following steps (repeated_step step fits n t)) none ∙ ap (λ o. following steps (at_limit t o)) some ∙ ap (λ n. outcome n Limit t) (add-zero steps))

      here : steps < limit → repeated_step step fits limit s ≡ following steps (cond (fits t) (following 1 (repeated_step step fits (limit - (steps + 1)) u)) (outcome 0 Full t))
      here less =
          let more : limit - steps ≡ suc (limit - (steps + 1)) = omega arith in
          turning.rest ∙ ap (λ n. following steps (repeated_step step fits n t)) more ∙ ap (λ o. following steps (one_more_of t (fits t) (repeated_step step fits (limit - (steps + 1))) o)) some

      pub turning_full : steps < limit → fits t ≡ false → outcome steps Full t ≡ repeated_step step fits limit s
      turning_full less full = sym (here less ∙ ap (following steps) (cond-false (fits t) _ _ full) ∙ ap (λ n. outcome n Full t) (add-zero steps))

      pub turning_more : steps < limit → fits t ≡ true → Turning limit s u (steps + 1)
      turning_more less room = record { spent = omega arith; rest = here less ∙ ap (following steps) (cond-true (fits t) _ _ room) ∙ following_both steps 1 (repeated_step step fits (limit - (steps + 1)) u) }
