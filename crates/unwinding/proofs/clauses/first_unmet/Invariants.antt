use Rattle.std.proofs.Common.{◌≡◌}
use Rattle.std.specs.List.{position_from}
use Rattle.std.specs.Iterator.Adapters.{enumerate_count, enumerate_source}
use Rattle.sheet.specs.Clauses.{clauses}
use Rattle.unwinding.specs.Bytes.{first_unmet, is_unmet, values_of}
use Rattle.unwinding.proofs.clauses.first_unmet.Given as goal

abbrev pub invariant-loop-number : goal.invariant-loop-number
invariant-loop-number l =
    position_from (is_unmet (values_of l.answer)) (enumerate_count l.number-iterator) (enumerate_source l.number-iterator) ≡ first_unmet (values_of l.answer) (clauses l.sheet)
