use Rattle.std.proofs.Common.{length, sym, ap, ◌∙◌, subst, arith}
use Rattle.sheet.specs.Literals.{Literal}
use Rattle.sheet.specs.Views.{record_seen}
use Rattle.meaning.specs.Unwinding.{unwound}
use Rattle.unwinding.specs.Bytes.{values_of}
use Rattle.unwinding.proofs.Mending.{unwound_newest, both, witness_literal}
use Rattle.unwinding.proofs.records.unwind.Goals as goal

pub mend-requires-clause-witness : goal.mend-requires-clause-witness
mend-requires-clause-witness c =
    let left = c.loop-record.invariant in
    subst (λ n. Literal n c.in-Some.record.witness) (omega arith) (witness_literal _ (record_seen c.in-Some.record) c.in-Some.ensures.steps (length c.args.answer.now) left.valid left.literals)

pub loop-record-preserved : goal.loop-record-preserved
loop-record-preserved c =
    let rest = c.next.new.self in
    let r = record_seen c.in-Some.record in
    let newest = c.in-Some.ensures.steps in
    let left = c.loop-record.invariant in
    record {
      valid = (both rest r newest _ left.valid).0;
      literals = (both rest r newest _ left.literals).0;
      bits = c.mend.ensures.bits;
      unwound = ap (unwound rest) c.mend.ensures.mended ∙ sym (unwound_newest rest r newest _) ∙ left.unwound;
    }

pub returns-clause-plan : goal.returns-clause-plan
returns-clause-plan c =
    sym (ap (λ rs. unwound rs (values_of c.loop-record.answer)) c.in-None.ensures.steps.0) ∙ c.loop-record.invariant.unwound ∙ ap (unwound c.args.records.now) c.reset_retired.ensures.reset
