-- Runs of a repeated step, and rules made of rules. Assumes nothing.
use Rattle.std.specs.Prelude.{◌≡◌, ℕ, zero, suc, ◌+◌, ◌-◌, Bool, true, false, cond, Some, None, Option, ◌≢◌}
use Rattle.meaning.specs.declared.report.Ending.{Ending}
use Rattle.meaning.specs.declared.report.Ending.TheVariants.{Done, Limit, Full, Rounds}
use Rattle.meaning.specs.Running.{Outcome}

abbrev pub outcome : {X : Type 0} → ℕ → Ending → X → Outcome X
outcome steps ending left = record { steps = steps; ending = ending; left = left }

-- with more steps made before
abbrev pub following : {X : Type 0} → ℕ → Outcome X → Outcome X
following n o = outcome (n + o.steps) o.ending o.left

abbrev pub at_limit : {X : Type 0} → X → Option X → Outcome X
at_limit s None = outcome 0 Done s
at_limit s (Some t) = outcome 0 Limit s

abbrev pub one_more_of : {X : Type 0} → X → Bool → (X → Outcome X) → Option X → Outcome X
one_more_of s fits rest None = outcome 0 Done s
one_more_of s fits rest (Some t) = cond fits (following 1 (rest t)) (outcome 0 Full s)

-- A step repeated: `step s` is what it makes at the first place, None where no place qualifies, and `fits s` whether its words fit.
-- Done is tested first, then the limit, then the room.
abbrev pub repeated_step : {X : Type 0} → (X → Option X) → (X → Bool) → ℕ → X → Outcome X
repeated_step step fits zero s = at_limit s (step s)
repeated_step step fits (suc n) s = one_more_of s (fits s) (repeated_step step fits n) (step s)

-- What a rule runs: from a limit and a sheet to what they come to.
abbrev pub Runs : Type 0 → Type 1
Runs X = ℕ → X → Outcome X → Type 0

-- whether what follows is run
abbrev pub is_going_on : Ending → Bool
is_going_on Done = true
is_going_on Limit = false
is_going_on Full = false
is_going_on Rounds = true

-- One rule, then another when the first ended done or rounds: the second gets the unused limit, steps add up, the last ending counts.
pub data Then {X : Type 0} (first second : Runs X) : ℕ → X → Outcome X → Type 0 where
  stops : {n : ℕ} {s : X} {o : Outcome X} → first n s o → is_going_on o.ending ≡ false → Then first second n s o
  goes_on : {n : ℕ} {s : X} {o p : Outcome X} → first n s o → is_going_on o.ending ≡ true → second (n - o.steps) o.left p → Then first second n s (following o.steps p)

-- A rule repeated for at most so many rounds, each with the limit still unused: after each, limit or full ends it, else a round without a step ends it done.
pub data Repeated {X : Type 0} (rule : Runs X) : ℕ → ℕ → X → Outcome X → Type 0 where
  no_rounds : {n : ℕ} {s : X} → Repeated rule 0 n s (outcome 0 Rounds s)
  stops : {rounds n : ℕ} {s : X} {o : Outcome X} → rule n s o → is_going_on o.ending ≡ false → Repeated rule (suc rounds) n s o
  idle : {rounds n : ℕ} {s : X} {o : Outcome X} → rule n s o → is_going_on o.ending ≡ true → o.steps ≡ 0 → Repeated rule (suc rounds) n s (outcome 0 Done o.left)
  goes_on : {rounds n : ℕ} {s : X} {o p : Outcome X} → rule n s o → is_going_on o.ending ≡ true → (o.steps ≢ 0) → Repeated rule rounds (n - o.steps) o.left p → Repeated rule (suc rounds) n s (following o.steps p)
