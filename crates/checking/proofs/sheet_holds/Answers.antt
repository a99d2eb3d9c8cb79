use Rattle.std.proofs.lemmas.Bool.{both_ways}
use Rattle.checking.proofs.Clausewise.{sheet_decides, sheet_stands}
use Rattle.checking.proofs.sheet_holds.Goals as goal

pub returns-then-clauses_stand-clause-holds : goal.returns-then-clauses_stand-clause-holds
returns-then-clauses_stand-clause-holds g c =
    let words = c.in-Some.ensures in
    sheet_decides _ _ words.1 c.of-clauses.ensures.clauses words.0 (c.is_laid.ensures.0 c.if-not-is_laid.false) (c.clauses_stand.ensures.0 c.if-clauses_stand.true) _ c.softs_apart.ensures.apart

pub returns-else-clauses_stand-clause-holds : goal.returns-else-clauses_stand-clause-holds
returns-else-clauses_stand-clause-holds g c =
    (λ e. absurd (both_ways _ c.if-clauses_stand.false e), λ h. c.clauses_stand.ensures.1 (sheet_stands _ _ c.in-Some.ensures.1 c.of-clauses.ensures.clauses h))
