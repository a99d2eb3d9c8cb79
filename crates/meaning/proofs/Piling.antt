-- Repeated steps, and rules made of rules, keep what a run means. Assumes nothing.
use Rattle.std.proofs.Common.{◌≡◌, ℕ, zero, suc, ◌-◌, Bool, true, false, Some, None, Option, sym, refl, ap, ◌∙◌, arith}
use Rattle.std.proofs.lemmas.Bool.{both_ways, cond_both}
use Rattle.weight.specs.Kind.{Kind, Lawful}
use Rattle.sheet.specs.Sheets.{Sheet}
use Rattle.meaning.specs.declared.report.Ending.{Ending}
use Rattle.meaning.specs.declared.report.Ending.TheVariants.{Done, Limit, Full, Rounds}
use Rattle.meaning.specs.Running.{Holds, Meaning, Outcome, Ran}
use Rattle.meaning.specs.Steps.{outcome, following, at_limit, one_more_of, repeated_step, Runs, Then, Repeated}
use Rattle.meaning.proofs.Runs.{meaning_refl, meaning_trans}

-- each run of the rule from a sheet that holds together means what a run must
abbrev pub AllRan : {V : Type 0} → Kind V → Runs (Sheet V) → Type 0
AllRan {V} k rule = (n : ℕ) (s : Sheet V) (o : Outcome (Sheet V)) → Holds k s → rule n s o → Ran k n s o

abbrev is_limit : Ending → Bool
is_limit Done = false
is_limit Limit = true
is_limit Full = false
is_limit Rounds = false

-- an ending that is not the limit
pub unlimited : (e : Ending) {P : Type 0} → is_limit e ≡ false → e ≡ Limit → P
unlimited e other is = absurd (both_ways (is_limit e) other (ap is_limit is))

module _ {V : Type 0} {k : Kind V} where
  -- a round without a step ends done
  pub ran_idle : {n : ℕ} {s : Sheet V} {o : Outcome (Sheet V)} → Ran k n s o → o.steps ≡ 0 → Ran k n s (outcome 0 Done o.left)
  ran_idle ran none = record { meaning = ran.meaning; spent = omega arith; limited = unlimited Done refl; idle = λ zero. ran.idle none }

module _ {V : Type 0} {k : Kind V} (laws : Lawful k) where
  -- no step
  pub ran_none : {s : Sheet V} (n : ℕ) (e : Ending) → Holds k s → (e ≡ Limit → n ≡ 0) → Ran k n s (outcome 0 e s)
  ran_none n e holds limited = record { meaning = meaning_refl laws holds; spent = omega arith; limited = λ is. sym (limited is); idle = λ none. refl }

  pub ran_then : {n : ℕ} {s : Sheet V} {o p : Outcome (Sheet V)} → Ran k n s o → Ran k (n - o.steps) o.left p → Ran k n s (following o.steps p)
  ran_then one other = record {
    meaning = meaning_trans laws one.meaning other.meaning;
    spent = omega arith;
    limited = λ is. omega (arith, other.limited is);
    idle = λ none. other.idle (omega arith) ∙ one.idle (omega arith);
  }

  -- one step
  pub ran_one : {s t : Sheet V} (n : ℕ) (e : Ending) → Meaning k s t → (e ≡ Limit → n ≡ 0) → Ran k (suc n) s (outcome 1 e t)
  ran_one n e meaning limited = record { meaning = meaning; spent = omega arith; limited = λ is. ap suc (sym (limited is)); idle = λ none. absurd (omega arith) }

  module _ (step : Sheet V → Option (Sheet V)) (fits : Sheet V → Bool) (keeps : (s t : Sheet V) → step s ≡ Some t → fits s ≡ true → Holds k s → Meaning k s t) where
    at_limit_lem : {s : Sheet V} → Holds k s → (next : Option (Sheet V)) → Ran k 0 s (at_limit s next)
    at_limit_lem holds None = ran_none 0 Done holds (λ is. refl)
    at_limit_lem holds (Some t) = ran_none 0 Limit holds (λ is. refl)

    one_more : (n : ℕ) (s : Sheet V) (rest : Sheet V → Outcome (Sheet V)) → Holds k s → ((t : Sheet V) → Holds k t → Ran k n t (rest t)) → (next : Option (Sheet V)) → step s ≡ next → Ran k (suc n) s (one_more_of s (fits s) rest next)
    one_more n s rest holds ran None is = ran_none (suc n) Done holds (unlimited Done refl)
    one_more n s rest holds ran (Some t) is =
        let left : suc n - 1 ≡ n = omega arith in
        cond_both (fits s) (following 1 (rest t)) (outcome 0 Full s) (Ran k (suc n) s)
        (λ room. let meaning = keeps s t is room holds in ran_then {o = outcome 1 Done t} (ran_one n Done meaning (unlimited Done refl)) (rw left (ran t meaning.holds)))
        (λ full. ran_none (suc n) Full holds (unlimited Full refl))

    pub ran_repeated : (n : ℕ) (s : Sheet V) → Holds k s → Ran k n s (repeated_step step fits n s)
    ran_repeated zero s holds = at_limit_lem holds (step s)
    ran_repeated (suc n) s holds = one_more n s (repeated_step step fits n) holds (ran_repeated n) (step s) refl

  pub then_ran : (first second : Runs (Sheet V)) → AllRan k first → AllRan k second → AllRan k (Then first second)
  then_ran first second one other n s o holds (Then.stops run ends) = one n s o holds run
  then_ran first second one other n s o holds (Then.goes_on run ends next) = let ran = one n s _ holds run in ran_then ran (other _ _ _ ran.meaning.holds next)

  pub repeated_ran : (rule : Runs (Sheet V)) → AllRan k rule → (rounds : ℕ) → AllRan k (Repeated rule rounds)
  repeated_ran rule one rounds n s o holds Repeated.no_rounds = ran_none n Rounds holds (unlimited Rounds refl)
  repeated_ran rule one rounds n s o holds (Repeated.stops run ends) = one n s o holds run
  repeated_ran rule one rounds n s o holds (Repeated.idle run ends none) = ran_idle (one n s _ holds run) none
  repeated_ran rule one (suc rounds) n s o holds (Repeated.goes_on run ends some next) = let ran = one n s _ holds run in ran_then ran (repeated_ran rule one rounds _ _ _ ran.meaning.holds next)
