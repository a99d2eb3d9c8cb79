use Rattle.std.proofs.Common.{◌≡◌, ◌+◌, ◌-◌, length, sym, refl, ap, ◌∙◌, arith}
use Rattle.steps.specs.Covering.{is_covered}
use Rattle.steps.specs.Places.{lowest_item, nameable}
use Rattle.covering.specs.Sights.{in_sight}
use Rattle.covering.proofs.Coverings.{no_label, searched, covered_by}
use Rattle.covering.proofs.Onward.{lowest_onward}
use Rattle.covering.proofs.Searches.{lowest_here, lowest_more}
use Rattle.covering.proofs.labels.Labels.first_covered.Goals as goal
use Rattle.covering.proofs.labels.Labels.first_covered.Goals.{then-is_label+else-other-test, else-is_label}

pub search-init : goal.search-init
search-init g c =
    let test = is_covered g.W.Weight.kind (in_sight g.W.Weight c.args.self.now) in
    (refl, lowest_onward test (c.nameable-end.result + 1) c.args.from c.requires.from c.requires.none)

pub other-preserved : goal.other-preserved
other-preserved g c = (c.other.invariant.0, lowest_more _ _ c.other.m (omega arith) (sym c.covers.ensures ∙ c.if-covers.false) ∙ c.other.invariant.1)

pub search-preserved : goal.search-preserved
search-preserved g c =
    let k = g.W.Weight.kind in
    let s = in_sight g.W.Weight c.args.self.now in
    let l = c.search.l in
    let end = c.nameable-end.result + 1 in
    let last : end - 1 ≡ nameable (length c.args.self.now.row.now) = omega (arith, c.nameable-end.ensures) in
    elim c.if-is_label.branch [
      | then-is_label+else-other-test w ↦ (
        w.found-is ∙ w.other.invariant.0,
        lowest_more (is_covered k s) end l (omega arith) (searched k s l end last w.other.m w.other.invariant.1 w.other-test.false) ∙ c.search.invariant.1,
      )
      | else-is_label w ↦ (
        w.found-is ∙ c.search.invariant.0,
        lowest_more (is_covered k s) end l (omega arith) (no_label k s l (sym c.is_label.ensures ∙ w.if-is_label.false)) ∙ c.search.invariant.1,
      )
    ]

pub returns-then-covers : goal.returns-then-covers
returns-then-covers g c =
    let k = g.W.Weight.kind in
    let s = in_sight g.W.Weight c.args.self.now in
    let l = c.search.l in
    let end = c.nameable-end.result + 1 in
    let last : end - 1 ≡ nameable (length c.args.self.now.row.now) = omega (arith, c.nameable-end.ensures) in
    let here = covered_by k s l end last c.other.m c.other.invariant.1 (omega arith) (sym c.is_label.ensures ∙ c.if-is_label.true) (sym c.covers.ensures ∙ c.if-covers.true) in
    sym (lowest_here (is_covered k s) end l (omega arith) here) ∙ c.search.invariant.1 ∙ ap (lowest_item (is_covered k s) 1) last
