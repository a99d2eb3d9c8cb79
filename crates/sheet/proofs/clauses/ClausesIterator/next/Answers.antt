use Rattle.std.proofs.Common.{◌≡◌, [], ap, sym, ◌∙◌, rules}
use Rattle.std.proofs.lemmas.List.{nil_from_length}
use Rattle.sheet.specs.Clauses.{clauses}
use Rattle.sheet.proofs.Laying.{clauses_nil}
use Rattle.sheet.proofs.clauses.ClausesIterator.next.Goals as goal

pub returns-then-is_empty-clause-steps : goal.returns-then-is_empty-clause-steps
returns-then-is_empty-clause-steps c =
    let none : c.self.inside.words.now ≡ [] = nil_from_length _ (search rules) in
    let end = sym c.self.view_is ∙ ap clauses none ∙ clauses_nil in
    (end, end)
