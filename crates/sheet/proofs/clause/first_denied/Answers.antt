use Rattle.std.proofs.Common.{ltb, rules, tests, arith}
use Rattle.std.proofs.lemmas.Bool.Decides.{nat_tests}
use Rattle.std.proofs.lemmas.List.Sorted.{IsNonDecreasingBy-from_default, IsPartitionPoint-from_clause, IsPartitionedBy-ltb}
use Rattle.sheet.proofs.Rises.{rising_from}
use Rattle.sheet.proofs.clause.first_denied.Goals as goal

pub returns : goal.returns
returns c =
    let ws = c.args.lits.now in
    let point = IsPartitionPoint-from_clause (λ w. ltb w 32768) ws _ c.partition_point.ensures.partitioned
    (IsPartitionedBy-ltb (λ w. w) ws 32768 (IsNonDecreasingBy-from_default (λ w. w) ws 0 (rising_from ws c.requires))) (λ a r f k. search (rules, tests)) in
    record {
      inside = c.partition_point.ensures.bound;
      plain = λ k before. let at = point.0 k 0 (omega arith) before in grind (arith, nat_tests);
      denied = λ k from inside. let at = point.1 k 0 from inside in grind (arith, nat_tests);
    }
