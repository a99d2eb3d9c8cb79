use Rattle.std.proofs.Common.{length, take, refl, sym, ap, ◌∙◌, inr, arith}
use Rattle.sheet.specs.declared.buffers.Marks.{Marks}
use Rattle.sheet.specs.declared.buffers.Counts.{Counts}
use Rattle.sheet.specs.Sheets.{Lent, lent}
use Rattle.std.proofs.lemmas.List.{length-take}
use Rattle.closing.proofs.Sizes.{clauses_few}
use Rattle.session.specs.Closing.{label_cause}
use Rattle.session.proofs.Causes.{none_from_ok, some_from_err}
use Rattle.session.proofs.Closes.{ranged, needed_is, closable, room_passes, labelled}
use Rattle.session.proofs.gathering.Gathering.label.Goals as goal

pub returns-in-Err-labels_fit : goal.returns-in-Err-labels_fit
returns-in-Err-labels_fit g c =
    let b = lent c.args.sheet.now c.args.row.now c.args.stack.now c.args.weights.now c.args.self.marks c.args.self.counts in
    let together = c.in_default.ensures in
    let own = c.args.self.own in
    let few = c.args.self.few in
    let needed = needed_is g.W.Weight b together (omega arith) c.items_needed-needed.result (rw c.of-clauses.ensures.clauses at c.items_needed-needed.ensures) in
    let cause = ap (λ n. label_cause n (length c.args.row.now)) (sym needed) ∙ some_from_err _ (sym c.labels_fit.ensures ∙ c.in-Err-labels_fit.is) in
    (inr (together, cause), refl)

pub of-survey-requires : goal.of-survey-requires
of-survey-requires g c =
    let b = lent c.args.sheet.now c.args.row.now c.args.stack.now c.args.weights.now c.args.self.marks c.args.self.counts in
    let together = c.in_default.ensures in
    let own = c.args.self.own in
    let few = c.args.self.few in
    record { ranged = rw c.of-clauses.ensures.clauses (ranged g.W.Weight b together (omega arith) 2000 (omega arith)) }

pub items_needed-needed-requires-clause-ranged : goal.items_needed-needed-requires-clause-ranged
items_needed-needed-requires-clause-ranged g c =
    let b = lent c.args.sheet.now c.args.row.now c.args.stack.now c.args.weights.now c.args.self.marks c.args.self.counts in
    let own = c.args.self.own in
    let few = c.args.self.few in
    rw c.of-clauses.ensures.clauses (ranged g.W.Weight b c.in_default.ensures (omega arith) 2000 (omega arith))

pub items_needed-needed-requires-clause-bound : goal.items_needed-needed-requires-clause-bound
items_needed-needed-requires-clause-bound g c =
    let bound = c.in_default.ensures.sheet.fits.bound in
    omega (arith, ap length c.of-clauses.ensures.clauses, clauses_few (take c.args.self.marks.sheet c.args.sheet.now), length-take c.args.self.marks.sheet c.args.sheet.now)

pub close-closed-requires-clause-closable : goal.close-closed-requires-clause-closable
close-closed-requires-clause-closable g c =
    let m = g.W.Weight in
    let b = lent c.args.sheet.now c.args.row.now c.args.stack.now c.args.weights.now c.args.self.marks c.args.self.counts in
    let together = c.in_default.ensures in
    let own = c.args.self.own in
    let few = c.args.self.few in
    let needed = needed_is m b together (omega arith) c.items_needed-needed.result (rw c.of-clauses.ensures.clauses at c.items_needed-needed.ensures) in
    let passes = ap (λ n. label_cause n (length c.args.row.now)) (sym needed) ∙ none_from_ok _ (sym c.labels_fit.ensures ∙ c.in_default-labels_fit.is) in
    closable m b together (omega arith) (room_passes m b together (omega arith) passes)

pub returns : goal.returns
returns g c =
    let m = g.W.Weight in
    let b = lent c.args.sheet.now c.args.row.now c.args.stack.now c.args.weights.now c.args.self.marks c.args.self.counts in
    let sheet = c.close-closed.new.sheet in
    let row = c.close-closed.new.row in
    let left : Marks → Counts → Lent g.row.W.Denot = λ marks counts. record { sheet = sheet; row = row; stack = c.args.stack.now; weights = c.args.weights.now; marks = marks; counts = counts } in
    let together = c.in_default.ensures in
    let own = c.args.self.own in
    let few = c.args.self.few in
    let needed = needed_is m b together (omega arith) c.items_needed-needed.result (rw c.of-clauses.ensures.clauses at c.items_needed-needed.ensures) in
    let passes = ap (λ n. label_cause n (length c.args.row.now)) (sym needed) ∙ none_from_ok _ (sym c.labels_fit.ensures ∙ c.in_default-labels_fit.is) in
    let done = c.close-closed.ensures in
    let closes = labelled m b together (omega arith) sheet row c.close-closed.result.fill c.close-closed.result.items passes done.shrinks done.laid done.closed done.held done.row done.rest in
    rw (c.of.ensures.marks, c.of.ensures.counts) closes
