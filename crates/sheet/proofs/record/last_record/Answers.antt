use Rattle.std.proofs.Common.{◌+◌, refl, arith}
use Rattle.sheet.proofs.RecordEnds.{no_room, ends}
use Rattle.sheet.proofs.record.last_record.Goals as goal

pub returns-in_err-to : goal.returns-in_err-to
returns-in_err-to c = rw c.from_residual.ensures (no_room c.args.words.now 0 (omega (arith, c.in_err-to.ensures)) (omega (arith, c.in_err-to.ensures)))

pub returns-in_err-from : goal.returns-in_err-from
returns-in_err-from c = rw c.from_residual-in_err-from.ensures (no_room c.args.words.now (c.in_ok-to.to + 1) (omega (arith, c.in_ok-to.ensures)) (omega (arith, c.in_ok-to.ensures, c.in_err-from.ensures)))

pub returns : goal.returns
returns c =
    ends c.args.words.now _ (omega (arith, c.in_ok-to.ensures)) (omega (arith, c.in_ok-from.ensures)) refl refl (omega (arith, c.type_inv.words (c.in_ok-to.to + 1)))
