-- One step of subsumed label elimination on the buffers is one on the sheet that they stand for. Assumes nothing.
use Rattle.std.proofs.Common.{◌≡◌, ℕ, ◌+◌, ◌<◌, ◌≤◌, min, Bool, true, List, [], ◌∷◌, ◌++◌, map, length, take, drop, is_some, Some, None, filter, Option, MatchOption, sym, refl, ap, ◌∙◌, subst, ap₂, arith}
use Rattle.std.specs.Option.{option_map}
use Rattle.std.specs.List.{AllByRecursion}
use Rattle.std.proofs.lemmas.List.{length-set, length-take-le}
use Rattle.std.proofs.lemmas.Bool.{and_parts, both_ways, cond-false, cond-true, le-leb, lt-leb, not_from_false}
use Rattle.weight.specs.declared.kind.Weight.{Ghosts}
use Rattle.sheet.specs.declared.buffers.Phase.TheVariants.{Working as at_work}
use Rattle.sheet.specs.declared.row.Item.{Item}
use Rattle.sheet.specs.declared.row.Standing.TheVariants.{Covered}
use Rattle.sheet.specs.Clauses.{Clause, Laid, clauses}
use Rattle.sheet.specs.Literals.{item_of, denied, opposite}
use Rattle.sheet.specs.Rows.{label_at}
use Rattle.sheet.specs.Sheets.{Sheet, Lent, decoded, used_clauses, used_row, used_weights}
use Rattle.sheet.specs.Together.{HoldsTogether}
use Rattle.steps.specs.Covering.{covered_out, covering, is_covered}
use Rattle.steps.specs.Places.{lowest_item, nameable}
use Rattle.steps.specs.Propagation.{propagated}
use Rattle.steps.specs.Rewriting.{lacking, lacks, payable_at, retired}
use Rattle.steps.proofs.Aging.{payable_label, payable_live}
use Rattle.steps.proofs.Holding.{clause_holds}
use Rattle.steps.proofs.Members.{In, all_from_in, not_in_lacks}
use Rattle.steps.proofs.Opposites.{opposite_opposite}
use Rattle.steps.proofs.Placing.{item_place}
use Rattle.steps.proofs.Retiring.{label_affirmed}
use Rattle.rules.proofs.Holding.{Framed, framed, holds}
use Rattle.rules.specs.Stepping.{Follows, IsThere}
use Rattle.rewriting.proofs.Rows.{row_front, row_behind_lem, row_reaches}
use Rattle.covering.specs.Labels.{NoneBelow, Weighed, lowest_covered, seen, sighted}
use Rattle.covering.proofs.Onward.{lowest_first, none_below_after}

kept_all : {X : Type 0} (p : X → Bool) (xs : List X) → AllByRecursion (λ x. p x ≡ true) xs → filter p xs ≡ xs
kept_all p [] all = refl
kept_all p (x ∷ xs) all = cond-true (p x) _ _ all.0 ∙ ap (λ ys. x ∷ ys) (kept_all p xs all.1)

module _ {W : Type 0} (m : Ghosts W) (b : Lent W) where
  abbrev lowest : Option ℕ
  lowest = lowest_covered m b

  -- found in the lent buffers as they were seen
  pub seen_lowest : {seen : Lent W} {s : Sheet m.Value} {o : Option ℕ} → o ≡ lowest_item (is_covered m.kind s) 1 (nameable (length s.row)) → s ≡ sighted m seen → seen ≡ b → o ≡ lowest
  seen_lowest found sight same = found ∙ ap (λ (t : Sheet m.Value). lowest_item (is_covered m.kind t) 1 (nameable (length t.row))) (sight ∙ ap (sighted m) same)

  none_left : lowest ≡ None → covering m.kind (decoded m b) ≡ None
  unfolding covering decoded
  none_left none = ap (option_map (covered_out m.kind (decoded m b))) none

  one_left : (l : ℕ) → lowest ≡ Some l → covering m.kind (decoded m b) ≡ Some (covered_out m.kind (decoded m b) l)
  unfolding covering decoded
  one_left l found = ap (option_map (covered_out m.kind (decoded m b))) found

  -- what the search answers
  pub label_found : (o : Option ℕ) → o ≡ lowest → MatchOption o (covering m.kind (decoded m b) ≡ None) (λ l. (lowest ≡ Some l) × IsThere (covering m.kind) (decoded m b))
  label_found None is = none_left (sym is)
  label_found (Some l) is = (sym is, (covered_out m.kind (decoded m b) l, one_left l (sym is)))

  module _ (together : HoldsTogether m at_work b) where
    pub all_weighed : Weighed (used_row b) (used_weights b)
    all_weighed = rw (length-take-le b.counts.softs b.weights together.weights.fits) together.row.ranged

    module _ (l : ℕ) (found : lowest ≡ Some l) where
      abbrev s : Sheet m.Value
      s = decoded m b

      place : (1 ≤ l) × (l < 1 + nameable (length (used_row b))) × (is_covered m.kind (sighted m b) l ≡ true)
      place = item_place (is_covered m.kind (sighted m b)) 1 (nameable (length (used_row b))) l found

      pub label_low : 1 ≤ l
      label_low = place.0

      pub label_high : l ≤ b.counts.items
      label_high = let below = place.1 in omega (arith, length-take-le b.counts.items b.row together.row.fits)

      pub low : l < 32768
      low = let below = place.1 in omega arith

      payable : payable_at (used_row b) l ≡ true
      payable = (and_parts (payable_at (used_row b) l) (is_some _) place.2).0

      denial : opposite l ≡ l + 32768
      denial = cond-false (denied l) _ _ (lt-leb 32768 l low)

      -- no clause denies the label
      undenied : (c : Clause) → In c (used_clauses b) → lacks (opposite l) c ≡ true
      unfolding decoded
      undenied c among = not_from_false _ (not_in_lacks (opposite l) c.lits (λ there.
          let small = low in
          let item : item_of (opposite l) ≡ l = ap item_of denial ∙ omega arith in
          let label : label_at (used_row b) (item_of (opposite l)) ≡ true = rw item (payable_label _ payable) in
          both_ways (denied (opposite l)) (label_affirmed (clause_holds (holds m b together) c among) (opposite l) there label) (ap denied denial ∙ le-leb 32768 (l + 32768) (omega arith))))

      -- so that making its denial true is to take it out of all clauses
      taken_out : propagated (opposite l) (used_clauses b) ≡ map (lacking l) (used_clauses b)
      taken_out =
          ap₂ (λ (w : ℕ) (cs : List Clause). map (lacking w) cs) (opposite_opposite l (let small = low in omega arith))
          (kept_all (lacks (opposite l)) (used_clauses b) (all_from_in (λ c. lacks (opposite l) c ≡ true) (used_clauses b) undenied))

      -- the row in use once the label is retired
      abbrev retired_row : List Item
      retired_row = retired (used_row b) l Covered

      -- the buffers once the step is made
      module _ (sheet : List ℕ) (row : List Item) (fill : ℕ) (long : length sheet ≡ length b.sheet)
          (shrinks : fill ≤ b.marks.sheet) (laid : Laid (take fill sheet)) (rewritten : clauses (take fill sheet) ≡ propagated (opposite l) (used_clauses b))
          (written : row ≡ retired_row ++ drop b.counts.items b.row) where
        abbrev after : Lent W
        after = record { sheet = sheet; row = row; stack = b.stack; weights = b.weights; marks = record { sheet = fill; stack = b.marks.stack }; counts = b.counts }

        frame : Framed b
        frame = framed m b together

        count : length retired_row ≡ b.counts.items
        count = length-set (used_row b) _ _ ∙ length-take-le b.counts.items b.row frame.row

        pub label_made : covering m.kind (decoded m b) ≡ Some (decoded m after)
        unfolding decoded
        label_made =
            one_left l found
            ∙ ap₂ (λ (items : List Item) (cs : List Clause). Some (record { callers = s.callers; row = items; clauses = cs; stack = s.stack; weights = s.weights })) (sym (row_front row b.row retired_row b.counts.items written count)) (sym taken_out ∙ sym rewritten)

        -- no lower label is covered then
        pub label_onward : NoneBelow (is_covered m.kind (sighted m after)) (l + 1)
        label_onward =
            let same : covered_out m.kind (sighted m b) l ≡ sighted m after =
            ap₂ (λ (items : List Item) (cs : List Clause). seen m cs items (used_weights b)) (sym (row_front row b.row retired_row b.counts.items written count)) (sym taken_out ∙ sym rewritten) in
            subst (λ t. NoneBelow (is_covered m.kind t) (l + 1)) same
            (none_below_after m.kind l (sighted m b) (payable_live _ payable) (λ j first less. lowest_first (is_covered m.kind (sighted m b)) (nameable (length (used_row b))) 1 l found j first less))

        pub label_framed : Framed after
        label_framed =
            let bound = frame.sheet.bound in
            let inside = frame.sheet.length in
            record {
              sheet = record { bound = omega arith; length = omega arith };
              laid = laid;
              row = row_reaches row b.row retired_row b.counts.items written count;
              stack = frame.stack;
              stacked = frame.stacked;
              weights = frame.weights;
            }

        pub label_follows : Follows b after
        label_follows = record {
          counts = refl;
          room = ap (λ n. record { sheet = min n 32768; stack = min (length b.stack) 32768 }) long;
          behind = row_behind_lem row b.row retired_row b.counts.items written count;
        }
