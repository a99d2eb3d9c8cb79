use Rattle.std.proofs.Common.{◌≡◌, [], ap, sym, ◌∙◌, rules}
use Rattle.std.proofs.lemmas.List.{nil_from_length}
use Rattle.sheet.specs.Records.{records}
use Rattle.sheet.proofs.Stacking.{records_nil}
use Rattle.sheet.proofs.records.RecordsIterator.next.Goals as goal

pub returns-then-is_empty-clause-steps : goal.returns-then-is_empty-clause-steps
returns-then-is_empty-clause-steps c =
    let none : c.self.inside.words.now ≡ [] = nil_from_length _ (search rules) in
    let end = sym c.self.view_is ∙ ap records none ∙ records_nil in
    (end, end)
