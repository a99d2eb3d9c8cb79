-- Resolvents of two clauses: when they are met, that they hold, and which clauses they come from. Assumes nothing.
use Rattle.std.proofs.Common.{◌≡◌, ℕ, ◌<◌, true, false, not, eqb, ◌⊎◌, List, length, filter, sym, refl, ap, ◌∙◌, subst, inl, inr}
use Rattle.std.proofs.lemmas.Bool.{and_parts, and_from, both_ways, cases_Bool, eqb-false, ne_eqb, not-true, not_from_false}
use Rattle.sheet.specs.declared.row.Item.{Item}
use Rattle.sheet.specs.Literals.{item_of, opposite, has}
use Rattle.sheet.specs.Clauses.{Clause}
use Rattle.meaning.specs.Answers.{Values, is_true, met}
use Rattle.meaning.specs.Unwinding.{made_true}
use Rattle.meaning.proofs.Truth.{opposite_true}
use Rattle.steps.specs.Places.{some}
use Rattle.steps.specs.Rewriting.{is_other, but, has_lit, having}
use Rattle.steps.specs.Elimination.{clashes_at, resolves, resolvent, resolvents_of, resolvents}
use Rattle.steps.proofs.Members.{In, all_in, all_from_in, in_kept, in_kept_from, in_map, in_map_from, in_joined, in_joined_from, some_in, some_from, has_in, in_has, not_in_lacks, in_but, in_but_from}
use Rattle.steps.proofs.Opposites.{opposite_opposite, same_item, made_keeps}
use Rattle.steps.proofs.Meeting.{unmet_false, true_differs, met_carried}
use Rattle.steps.proofs.Holding.{ClauseHolds, word_in, one_sign_in, kept_rising}
use Rattle.steps.proofs.Witnesses.{denial_met}
use Rattle.steps.proofs.Unions.{in_union, in_union_left, in_union_right, union_rising}

-- the literals of a resolvent
resolvent_from : (x : ℕ) (c d : Clause) (y : ℕ) → In y (resolvent x c d).lits → (In y c.lits × (y ≡ x → ⊥)) ⊎ (In y d.lits × (y ≡ opposite x → ⊥))
resolvent_from x c d y among = elim (in_union y (but x c.lits) (but (opposite x) d.lits) among) [
  | inl left ↦ inl (in_but y x c.lits left)
  | inr right ↦ inr (in_but y (opposite x) d.lits right)
]

-- Where both are met, so is the resolvent: one of x and its denial is false, and the clause that has the false one has another true literal.
pub resolvent_met : (v : Values) (x : ℕ) (c d : Clause) → x < 65536 → met v c.lits ≡ true → met v d.lits ≡ true → met v (resolvent x c d).lits ≡ true
resolvent_met v x c d word c_met d-met =
    let left = but x c.lits in
    let right = but (opposite x) d.lits in
    elim (cases_Bool (is_true v x)) [
      | inl is ↦ met_carried v v d.lits (resolvent x c d).lits d-met (λ y among so. (in_union_right y left right (in_but_from y (opposite x) d.lits among (true_differs v y (opposite x) so (opposite_true v x word ∙ ap not is))), so))
      | inr fails ↦ met_carried v v c.lits (resolvent x c d).lits c_met (λ y among so. (in_union_left y left right (in_but_from y x c.lits among (true_differs v y x so fails)), so))
    ]

module _ {row : List Item} {c d : Clause} (c_holds : ClauseHolds row c) (d-holds : ClauseHolds row d) (x : ℕ) (x_in : In x c.lits) where
  -- Where c is unmet and x is made true, d is met: by a denial of another literal of c, or by what meets the resolvent.
  pub resolved_met : (v : Values) → met v c.lits ≡ false → (resolves x c d ≡ true → met v (resolvent x c d).lits ≡ true) → met (made_true v x) d.lits ≡ true
  resolved_met v unmet given = elim (cases_Bool (some (clashes_at x d) c.lits)) [
    | inl clash ↦
        let found = some_in (clashes_at x d) c.lits clash in
        let y = found.0 in
        let tests = and_parts (not (eqb y x)) (has (opposite y) d.lits) found.2 in
        denial_met c_holds d-holds v x x_in unmet y found.1 (eqb-false y x (not-true (eqb y x) tests.0)) (has_in (opposite y) d.lits tests.1)
    | inr none ↦ met_carried v (made_true v x) (resolvent x c d).lits d.lits (given (not_from_false (some (clashes_at x d) c.lits) none)) (λ y among is. elim (resolvent_from x c d y among) [
      | inl left ↦ absurd (both_ways (is_true v y) (unmet_false v y c.lits unmet left.0) is)
      | inr right ↦ (right.0, made_keeps v x y (word_in c_holds x x_in) (word_in d-holds y right.0) right.1 is)
    ])
  ]

  module _ (denial_in : In (opposite x) d.lits) where
    -- its item is gone from the resolvent
    pub resolvent_apart : (y : ℕ) → In y (resolvent x c d).lits → item_of y ≡ item_of x → ⊥
    resolvent_apart y among same =
        let word = word_in c_holds x x_in in
        elim (resolvent_from x c d y among) [
          | inl left ↦ elim (same_item y x (word_in c_holds y left.0) word same) [
            | inl is ↦ left.1 is
            | inr is ↦ one_sign_in c_holds x x_in (subst (λ z. In z c.lits) is left.0)
          ]
          | inr right ↦ elim (same_item y x (word_in d-holds y right.0) word same) [
            | inl is ↦ one_sign_in d-holds (opposite x) denial_in (subst (λ z. In z d.lits) (is ∙ sym (opposite_opposite x word)) right.0)
            | inr is ↦ right.1 is
          ]
        ]

    module _ (does : resolves x c d ≡ true) where
      no_clash : (y : ℕ) → In y c.lits → (y ≡ x → ⊥) → In (opposite y) d.lits → ⊥
      no_clash y among other denial =
          both_ways (some (clashes_at x d) c.lits) (not-true (some (clashes_at x d) c.lits) does)
          (some_from (clashes_at x d) y c.lits among (and_from (not (eqb y x)) (has (opposite y) d.lits) (not_from_false (eqb y x) (ne_eqb y x other)) (in_has (opposite y) d.lits denial)))

      resolvent_one_sign : (y : ℕ) → In y (resolvent x c d).lits → In (opposite y) (resolvent x c d).lits → ⊥
      resolvent_one_sign y among both = elim (resolvent_from x c d y among) [
        | inl left ↦ elim (resolvent_from x c d (opposite y) both) [
          | inl other ↦ one_sign_in c_holds y left.0 other.0
          | inr other ↦ no_clash y left.0 left.1 other.0
        ]
        | inr right ↦ elim (resolvent_from x c d (opposite y) both) [
          | inl other ↦ no_clash (opposite y) other.0 other.1 (subst (λ z. In z d.lits) (sym (opposite_opposite y (word_in d-holds y right.0))) right.0)
          | inr other ↦ one_sign_in d-holds y right.0 other.0
        ]
      ]

      pub resolvent_holds : length (resolvent x c d).lits < 4096 → ClauseHolds row (resolvent x c d)
      resolvent_holds count = record {
        working = refl;
        valid = record {
          count = count;
          normal = record {
            rising = union_rising (but x c.lits) (but (opposite x) d.lits) (kept_rising (is_other (opposite x)) d.lits d-holds.valid.normal.rising);
            one_sign = all_from_in _ (resolvent x c d).lits (λ y among. not_in_lacks (opposite y) (resolvent x c d).lits (resolvent_one_sign y among));
          };
        };
        stands = all_from_in _ (resolvent x c d).lits (λ y among. elim (resolvent_from x c d y among) [
          | inl left ↦ all_in _ y c.lits c_holds.stands left.0
          | inr right ↦ all_in _ y d.lits d-holds.stands right.0
        ]);
      }

-- Which clauses resolvents come from.

pub in_having : (w : ℕ) (c : Clause) (cs : List Clause) → In c (having w cs) → In c cs × In w c.lits
in_having w c cs among = let kept = in_kept (has_lit w) c cs among in (kept.0, has_in w c.lits kept.1)

pub in_having_from : (w : ℕ) (c : Clause) (cs : List Clause) → In c cs → In w c.lits → In c (having w cs)
in_having_from w c cs among there = in_kept_from (has_lit w) c cs among (in_has w c.lits there)

pub record Resolved (x : ℕ) (cs : List Clause) (r : Clause) : Type 0 where
  pub c : Clause
  pub d : Clause
  pub c_in : In c cs
  pub d_in : In d cs
  pub x_in : In x c.lits
  pub denial_in : In (opposite x) d.lits
  pub does : resolves x c d ≡ true
  pub is : resolvent x c d ≡ r

pub in_resolvents : (x : ℕ) (cs : List Clause) (r : Clause) → In r (resolvents x cs) → Resolved x cs r
in_resolvents x cs r among =
    let outer = in_joined (resolvents_of x (having (opposite x) cs)) r (having x cs) among in
    let c = outer.0 in
    let inner = in_map (resolvent x c) r (filter (resolves x c) (having (opposite x) cs)) outer.2 in
    let d = inner.0 in
    let kept = in_kept (resolves x c) d (having (opposite x) cs) inner.1 in
    let left = in_having x c cs outer.1 in
    let right = in_having (opposite x) d cs kept.0 in
    record { c = c; d = d; c_in = left.0; d_in = right.0; x_in = left.1; denial_in = right.1; does = kept.1; is = inner.2 }

pub in_resolvents_from : (x : ℕ) (cs : List Clause) (c d : Clause) → In c cs → In d cs → In x c.lits → In (opposite x) d.lits → resolves x c d ≡ true → In (resolvent x c d) (resolvents x cs)
in_resolvents_from x cs c d c_in d_in x_in denial_in does =
    in_joined_from (resolvents_of x (having (opposite x) cs)) (resolvent x c d) c (having x cs) (in_having_from x c cs c_in x_in)
    (in_map_from (resolvent x c) d (filter (resolves x c) (having (opposite x) cs)) (in_kept_from (resolves x c) d (having (opposite x) cs) (in_having_from (opposite x) d cs d_in denial_in) does))
