use Rattle.std.proofs.Common.{◌≡◌, ◌++◌, [], drop, replicate, refl, ap, ◌∙◌, rules}
use Rattle.std.proofs.lemmas.List.{length-take-le}
use Rattle.sheet.specs.Sheets.{decoded}
use Rattle.meaning.specs.Calls.{Reached, gathering, by_open, plain_item}
use Rattle.meaning.proofs.Reaching.{reached_faithful}
use Rattle.session.proofs.Fresh.{decoded_new}
use Rattle.session.proofs.gathering.open.open.Goals as goal

pub returns : goal.returns
returns g c =
    let n = c.args.items in
    let sheet = c.args.sheet.now in
    let stack = c.args.stack.now in
    let weights = c.args.weights.now in
    let behind = drop n c.args.row.now in
    let plain : c.fill.new.self ≡ replicate n plain_item =
    c.fill.ensures.after (λ y same. same) ∙ ap (λ k. replicate k plain_item) (length-take-le n c.args.row.now c.if-row-items.false) in
    let is = ap (λ row. decoded g.W.Weight (record { sheet = sheet; row = row ++ behind; stack = stack; weights = weights; marks = record { sheet = 0; stack = 0 }; counts = record { callers = n; items = n; softs = 0 } })) plain
    ∙ decoded_new g.W.Weight n sheet stack weights behind in
    let reached : Reached g.W.Weight.kind gathering [] _ = by_open c.if-items-gt-MOST_ITEMS.false is in
    record {
      answer = record { passes = search rules; row = ap (λ row. row ++ behind) plain; marks = refl; counts = refl };
      faithful = (reached, reached_faithful g.met.W.Weight.lawful gathering [] _ reached);
    }
