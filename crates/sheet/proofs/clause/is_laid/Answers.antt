use Rattle.std.proofs.Common.{◌≡◌, ◌%◌, take, drop, sym, ap, ap₂, ◌∙◌, subst, arith}
use Rattle.std.proofs.lemmas.Bool.Decides.{not_from_Decides}
use Rattle.std.proofs.lemmas.List.{nil_from_length}
use Rattle.sheet.specs.Clauses.{Laid, behind}
use Rattle.sheet.specs.Literals.{Normal}
use Rattle.sheet.proofs.Deciding.{accepts, refuses}
use Rattle.sheet.proofs.Heads.{Headed, headed, laid_headed}
use Rattle.sheet.proofs.Laying.{laid_nil}
use Rattle.sheet.proofs.clause.is_laid.Goals as goal
use Rattle.sheet.proofs.clause.is_laid.Goals.{then-not-is_kind-via-then-not-is_kind, then-not-is_kind-via-else-not-is_kind+then-not-is_normal}

pub returns-in_default-split_at_checked : goal.returns-in_default-split_at_checked
returns-in_default-split_at_checked c = refuses (λ laid.
    let head = headed _ _ (subst (λ ws. Laid ws) c.in-Some.ensures.cases.0 (c.loop-header.invariant.1 laid)) in
    omega (arith, head.fits, c.words_behind.ensures, c.in_default-split_at_checked.ensures.cases))

pub returns-then-not-is_kind : goal.returns-then-not-is_kind
returns-then-not-is_kind c = refuses (λ laid.
    let h = c.in-Some.header.now in
    let ws = c.in-Some.behind.now in
    let head = headed h ws (subst (λ ws. Laid ws) c.in-Some.ensures.cases.0 (c.loop-header.invariant.1 laid)) in
    let body = c.in-Some-split_at_checked.ensures.cases.1 ∙ ap (λ n. take n ws) c.words_behind.ensures in
    elim c.then-not-is_kind.branch [
      | then-not-is_kind-via-then-not-is_kind w ↦ not_from_Decides _ c.is_kind.ensures w.if-not-is_kind.true head.kind
      | then-not-is_kind-via-else-not-is_kind+then-not-is_normal w ↦
          let lits = ap₂ take w.count.ensures body in
          not_from_Decides _ w.is_normal.ensures w.if-not-is_normal.true (subst Normal (sym lits) head.normal)
    ])

pub loop-header-preserved : goal.loop-header-preserved
loop-header-preserved c =
    let h = c.in-Some.header.now in
    let ws = c.in-Some.behind.now in
    let split = c.in-Some-split_at_checked.ensures.cases in
    let next : c.in-Some-split_at_checked.next.now ≡ drop (behind h) ws = split.2 ∙ ap (λ n. drop n ws) c.words_behind.ensures in
    let lits : take c.count.result c.in-Some-split_at_checked.body.now ≡ take (h % 4096) (take (behind h) ws) = ap₂ take c.count.ensures (split.1 ∙ ap (λ n. take n ws) c.words_behind.ensures) in
    let here : Laid c.in-Some-split_at_checked.next.now → Headed h ws = λ rest. record {
      fits = omega (arith, split.0, c.words_behind.ensures);
      kind = c.is_kind.ensures.0 c.if-not-is_kind.false;
      normal = subst Normal lits (c.is_normal.ensures.0 c.if-not-is_normal.false);
      rest = subst (λ vs. Laid vs) next rest;
    } in (
      λ rest. c.loop-header.invariant.0 (subst (λ vs. Laid vs) (sym c.in-Some.ensures.cases.0) (laid_headed h ws (here rest))),
      λ laid. subst (λ vs. Laid vs) (sym next) (headed h ws (subst (λ ws. Laid ws) c.in-Some.ensures.cases.0 (c.loop-header.invariant.1 laid))).rest,
    )

pub returns : goal.returns
returns c = accepts (c.loop-header.invariant.0 (subst (λ ws. Laid ws) (sym (nil_from_length _ c.in_default.ensures.cases)) laid_nil))
