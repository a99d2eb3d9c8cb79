use Rattle.std.proofs.Common.{sym, ◌∙◌, subst}
use Rattle.meaning.specs.declared.report.Report.{Report}
use Rattle.meaning.specs.Steps.{Then}
use Rattle.sheet.specs.Lending.{lent_on}
use Rattle.sheet.specs.Sheets.{Lent}
use Rattle.rules.specs.Answering.{Went}
use Rattle.rules.proofs.Piles.{then_stops, then_goes_on}
use Rattle.rules.proofs.pile.SequenceRule.run.Goals as goal

pub returns-then-not-goes_on-clause-answer : goal.returns-then-not-goes_on-clause-answer
returns-then-not-goes_on-clause-answer g c =
    let m = g.W.Weight in
    let pile = c.args.self.now in
    let first = g.A.Rule.runs pile.first m.Value m.kind in
    let second = g.B.Rule.runs pile.second m.Value m.kind in
    let b = lent_on c.args.desk.now in
    then_stops m g.met.W.Weight.lawful first second c.args.limit b c.in_ok-first.ensures.answer (sym c.goes_on.ensures ∙ c.if-not-goes_on.true)

pub returns-clause-answer : goal.returns-clause-answer
returns-clause-answer g c =
    let m = g.W.Weight in
    let pile = c.args.self.now in
    let first = g.A.Rule.runs pile.first m.Value m.kind in
    let second = g.B.Rule.runs pile.second m.Value m.kind in
    let b = lent_on c.args.desk.now in
    let d : Lent g.row.W.Denot = lent_on c.run-2.new.desk in
    let goes = then_goes_on m g.met.W.Weight.lawful first second c.args.limit b c.in_ok-first.ensures.answer (sym c.goes_on.ensures ∙ c.if-not-goes_on.false) c.in_ok-second.ensures.answer in
    subst (λ (r : Report). Went m (λ room. Then (first room) (second room)) c.args.limit b d r) (sym c.together.ensures) goes
