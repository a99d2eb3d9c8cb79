-- The small instance through elimination, covering and propagation, and unwound. Assumes nothing.
use Rattle.std.specs.Prelude.{ℕ, true, [], ◌∷◌, Option}
use Rattle.weight.specs.Wholes.{wholes}
use Rattle.sheet.specs.Records.{encode_stack}
use Rattle.sheet.specs.Sheets.{Sheet}
use Rattle.meaning.specs.Running.{Outcome}
use Rattle.meaning.specs.Steps.{repeated_step}
use Rattle.steps.specs.Propagation.{propagation}
use Rattle.steps.specs.Elimination.{elimination}
use Rattle.steps.specs.Covering.{covering}
use Rattle.examples.specs.Showing.{Example, values_of, unwinding}
use Rattle.examples.specs.Closing.{small}

-- run to its end, in buffers where all words fit
abbrev pub ran : (Sheet ℕ → Option (Sheet ℕ)) → Sheet ℕ → Outcome (Sheet ℕ)
ran step s = repeated_step step (λ t. true) 10_000 s

abbrev pub small_eliminated : Outcome (Sheet ℕ)
small_eliminated = ran elimination small

abbrev pub small_covered : Outcome (Sheet ℕ)
small_covered = ran (covering wholes) small_eliminated.left

abbrev pub small_propagated : Outcome (Sheet ℕ)
small_propagated = ran propagation small_covered.left

-- elimination retires 3, covering 1, propagation 2
abbrev pub small_instance_takes_a_step_of_each : Example
small_instance_takes_a_step_of_each = record {
  computed = small_eliminated.steps ∷ small_covered.steps ∷ small_propagated.steps ∷ [];
  expected = 1 ∷ 1 ∷ 1 ∷ [];
}

-- {3, 4} with 3 as witness, then {2} with 2
abbrev pub small_instance_records : Example
small_instance_records = record {
  computed = encode_stack small_propagated.left.stack;
  expected = 3 ∷ 4 ∷ 3 ∷ 4098 ∷ 2 ∷ 2 ∷ 12289 ∷ [];
}

-- all sent as no: 2 is made yes, and so is 3, since 4 is no
abbrev pub small_instance_unwinds_unpaid : Example
small_instance_unwinds_unpaid = record {
  computed = unwinding small_propagated.left (values_of (0 ∷ 0 ∷ 0 ∷ 0 ∷ []));
  expected = 0 ∷ 0 ∷ 0 ∷ 0 ∷ 0 ∷ 1 ∷ 1 ∷ 0 ∷ 3 ∷ 3 ∷ [];
}

-- with label 4 paid 3 stays no
abbrev pub small_instance_unwinds_paid : Example
small_instance_unwinds_paid = record {
  computed = unwinding small_propagated.left (values_of (0 ∷ 0 ∷ 0 ∷ 1 ∷ []));
  expected = 0 ∷ 0 ∷ 0 ∷ 1 ∷ 0 ∷ 1 ∷ 0 ∷ 1 ∷ 5 ∷ 5 ∷ [];
}
