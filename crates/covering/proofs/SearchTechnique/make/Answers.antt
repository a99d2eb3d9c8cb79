use Rattle.std.proofs.Common.{refl, ap, ◌∙◌, arith, rules}
use Rattle.sheet.specs.Lending.{lent_on}
use Rattle.sheet.specs.Sheets.{used_clauses}
use Rattle.sheet.specs.declared.row.Standing.TheVariants.{Covered}
use Rattle.steps.specs.Propagation.{propagated}
use Rattle.steps.specs.Rewriting.{retired}
use Rattle.rewriting.proofs.Rows.{retired_front}
use Rattle.covering.proofs.Unpaid.{low, label_low, label_high, label_made, label_framed, label_follows, label_onward}
use Rattle.covering.proofs.SearchTechnique.make.Goals as goal

pub retire-requires : goal.retire-requires
retire-requires g c =
    let b = lent_on c.args.desk.now in
    let together = c.requires.together in
    record {
      low = omega (arith, c.from.ensures, label_low g.W.Weight b together c.args.l c.requires.found);
      high = omega (arith, c.from.ensures, label_high g.W.Weight b together c.args.l c.requires.found, together.row.fits);
    }

pub overflow_add-self : goal.overflow_add-self
overflow_add-self g c = omega (arith, low g.W.Weight (lent_on c.args.desk.now) c.requires.together c.args.l c.requires.found)

pub returns : goal.returns
returns g c =
    let m = g.W.Weight in
    let b = lent_on c.args.desk.now in
    let together = c.requires.together in
    let l = c.args.l in
    let found = c.requires.found in
    let made = c.make_true-desk.ensures in
    let rewritten = made.rewritten ∙ ap (λ w. propagated w (used_clauses b)) c.opposite.ensures in
    let written = c.retire.ensures ∙ ap (λ i. retired c.args.desk.now.row.now i Covered) c.from.ensures
    ∙ retired_front c.args.desk.now.row.now c.args.desk.now.counts.items l (λ _. Covered) (label_low m b together l found) (label_high m b together l found) together.row.fits in
    let sheet = c.make_true-desk.new.sheet in
    let fill = c.make_true-desk.result in
    let long = c.make_true-desk.auto.sheet in
    record {
      answer = (
        label_made m b together l found sheet _ fill long made.shrinks made.laid rewritten written,
        refl,
        label_framed m b together l found sheet _ fill long made.shrinks made.laid rewritten written,
        label_follows m b together l found sheet _ fill long made.shrinks made.laid rewritten written,
      );
      ready = λ _. (omega arith, label_onward m b together l found sheet _ fill long made.shrinks made.laid rewritten written);
      loans = record { sheet = refl; row = refl; stack = refl; sheet_length = search rules; row_length = search rules; stack_length = refl; weights = refl; counts = refl };
    }
