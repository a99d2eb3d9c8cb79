use Rattle.std.proofs.Common.{sym, ap, ◌∙◌}
use Rattle.std.proofs.lemmas.List.{get_or-map}
use Rattle.sheet.specs.declared.row.Item.{Item}
use Rattle.sheet.specs.Rows.{item_at}
use Rattle.covering.proofs.Weighing.{weighed_label}
use Rattle.covering.proofs.labels.Labels.weight_of.Goals as goal

pub returns : goal.returns
returns g c =
    let m = g.W.Weight in
    let row = c.args.self.now.row.now in
    let weights = c.args.self.now.weights.now in
    let ordinal = c.from.ensures ∙ ap (λ (item : Item). item.ordinal) c.item.ensures in
    let inside = weighed_label row weights c.args.i c.requires.low c.requires.high c.requires.label c.args.self.now.weighed in
    rw ordinal (sym (get_or-map m.value weights (item_at row c.args.i).ordinal c.index-self-from.result m.kind.zero inside))
