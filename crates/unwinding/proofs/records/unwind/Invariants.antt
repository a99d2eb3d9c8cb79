use Rattle.std.proofs.Common.{◌≡◌, length}
use Rattle.std.specs.List.{AllByRecursion}
use Rattle.sheet.specs.Literals.{Literal}
use Rattle.sheet.specs.Records.{ValidRecord}
use Rattle.meaning.specs.Unwinding.{unwound}
use Rattle.unwinding.specs.Bytes.{Bits, values_of}
use Rattle.unwinding.proofs.records.unwind.Given as goal

abbrev pub invariant-loop-record : goal.invariant-loop-record
invariant-loop-record l = record {
  valid : AllByRecursion ValidRecord l.record-iterator;
  literals : AllByRecursion (λ r. AllByRecursion (Literal (length l.fn.answer)) r.lits) l.record-iterator;
  bits : Bits l.answer;
  unwound : unwound l.record-iterator (values_of l.answer) ≡ unwound l.records (values_of l.initial.answer);
}
