-- Worked examples: what the definitions come to, as numbers, beside what they should come to. A row is named by what it shows. Assumes nothing.
use Rattle.std.specs.Prelude.{List, [], ◌∷◌}
use Rattle.std.specs.List.{AllByRecursion}
use Rattle.weight.specs.Kind.{total_of}
use Rattle.weight.specs.Wholes.{wholes}
use Rattle.examples.specs.Showing.{Example, Holds}
use Rattle.examples.specs.Closing.{small_instance_closes, small_instance_labels, denied_twice_gets_two_labels}
use Rattle.examples.specs.Stepping.{equal_clauses_leave_one, of_equal_clauses_the_later_goes, contradiction_leaves_the_empty_clause, equal_labels_cover_the_lower, more_resolvents_than_clauses_stay}
use Rattle.examples.specs.Unwinding.{newer_record_sets_off_the_older, plan_pays_less_than_the_answer}
use Rattle.examples.specs.Running.{small_instance_takes_a_step_of_each, small_instance_records, small_instance_unwinds_unpaid, small_instance_unwinds_paid}

-- where single precision stays at 16,777,216
abbrev pub total_beyond_single_precision : Example
total_beyond_single_precision = record {
  computed = total_of wholes (λ w. w) (16_777_216 ∷ 1 ∷ []) ∷ [];
  expected = 16_777_217 ∷ [];
}

abbrev pub rows : List Example
rows =
    total_beyond_single_precision
    ∷ small_instance_closes
    ∷ small_instance_labels
    ∷ denied_twice_gets_two_labels
    ∷ equal_clauses_leave_one
    ∷ of_equal_clauses_the_later_goes
    ∷ contradiction_leaves_the_empty_clause
    ∷ equal_labels_cover_the_lower
    ∷ more_resolvents_than_clauses_stay
    ∷ newer_record_sets_off_the_older
    ∷ plan_pays_less_than_the_answer
    ∷ small_instance_takes_a_step_of_each
    ∷ small_instance_records
    ∷ small_instance_unwinds_unpaid
    ∷ small_instance_unwinds_paid
    ∷ []

abbrev pub EveryRowHolds : Type 0
EveryRowHolds = AllByRecursion Holds rows
