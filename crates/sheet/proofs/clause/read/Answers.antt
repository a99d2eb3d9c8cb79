use Rattle.std.proofs.Common.{refl, arith}
use Rattle.sheet.proofs.Headers.{step_at, step_told}
use Rattle.sheet.proofs.clause.read.Goals as goal

pub bounds-sheet-at-2 : goal.bounds-sheet-at-2
bounds-sheet-at-2 c = omega (arith, (step_at c.args.sheet.now c.args.at c.args.fill c.requires.fits c.requires.inside c.requires.laid).fits)

pub returns : goal.returns
returns c = step_told c.args.sheet.now c.args.at c.args.fill c.requires.fits c.requires.inside c.requires.laid _ (cc) refl (cc) (cc)
