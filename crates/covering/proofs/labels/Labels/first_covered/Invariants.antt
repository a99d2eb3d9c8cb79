use Rattle.std.proofs.Common.{◌≡◌, ◌-◌, None}
use Rattle.steps.specs.Covering.{covers, is_covered}
use Rattle.steps.specs.Places.{lowest_item}
use Rattle.covering.specs.Sights.{in_sight}
use Rattle.covering.proofs.labels.Labels.first_covered.Given as goal

abbrev pub invariant-search : goal.invariant-search
invariant-search g l =
    let k = g.W.Weight.kind in
    let s = in_sight g.W.Weight l.self in
    (l.found ≡ None) × (lowest_item (is_covered k s) l.l (l.end - l.l) ≡ lowest_item (is_covered k s) 1 (l.end - 1))

abbrev pub invariant-other : goal.invariant-other
invariant-other g l =
    let k = g.W.Weight.kind in
    let s = in_sight g.W.Weight l.self in
    (l.found ≡ None) × (lowest_item (covers k s l.l) l.m (l.end - l.m) ≡ lowest_item (covers k s l.l) 1 (l.end - 1))
