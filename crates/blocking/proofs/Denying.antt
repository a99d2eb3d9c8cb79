-- Another literal denied, seen from either clause. Assumes nothing.
use Rattle.std.proofs.Common.{◌≡◌, ℕ, Bool, true, not, ◌&&◌, ◌||◌, eqb, List, sym, refl, ap, ◌∙◌, arith}
use Rattle.std.specs.List.{list_any}
use Rattle.std.proofs.lemmas.Bool.{and_from, and_parts, eq-eqb, eqb-true}
use Rattle.std.proofs.lemmas.Bool.Decides.{nat_tests, same_from_decides}
use Rattle.sheet.specs.declared.clause.Tag.TheVariants.{Working}
use Rattle.sheet.specs.declared.row.Item.{Item}
use Rattle.sheet.specs.Literals.{item_of, opposite, has}
use Rattle.steps.specs.Places.{some}
use Rattle.steps.specs.Rewriting.{plain_at, plain_lit}
use Rattle.steps.specs.Blocking.{denies_other}
use Rattle.steps.proofs.Members.{some_in, some_from, has_in, in_has}
use Rattle.marking.specs.Marks.{other_denied}
use Rattle.places.proofs.Clausewise.{some_is_any}
use Rattle.blocking.specs.Blocks.{blocks_in}

item_opposite : (w : ℕ) → item_of (opposite w) ≡ item_of w
item_opposite w = grind (arith, nat_tests)

module _ (row : List Item) (lits ds : List ℕ) (w : ℕ) where
  abbrev outside : ℕ → Bool
  outside = denies_other row w (record { tag = Working; lits = ds })

  abbrev pub within : ℕ → Bool
  within y = plain_lit row y && other_denied w y lits

  abbrev denied : ℕ → ℕ → Bool
  denied y x = not (eqb x w) && eqb (opposite x) y

  plain_opposite : (x : ℕ) → plain_lit row (opposite x) ≡ plain_lit row x
  plain_opposite x = ap (plain_at row) (item_opposite x)

  to_within : some outside lits ≡ true → some within ds ≡ true
  unfolding other_denied
  to_within denies =
      let found = some_in outside lits denies in
      let x = found.0 in
      let parts = and_parts (not (eqb x w)) (plain_lit row x && has (opposite x) ds) found.2 in
      let rest = and_parts (plain_lit row x) (has (opposite x) ds) parts.1 in
      some_from within (opposite x) ds (has_in (opposite x) ds rest.1)
      (and_from _ _ (plain_opposite x ∙ rest.0) (some_is_any (denied (opposite x)) lits ∙ some_from (denied (opposite x)) x lits found.1 (and_from _ _ parts.0 (eq-eqb (opposite x) (opposite x) refl))))

  from_within : some within ds ≡ true → some outside lits ≡ true
  unfolding other_denied
  from_within denies =
      let found = some_in within ds denies in
      let y = found.0 in
      let parts = and_parts (plain_lit row y) (other_denied w y lits) found.2 in
      let found_x = some_in (denied y) lits (sym (some_is_any (denied y) lits) ∙ parts.1) in
      let x = found_x.0 in
      let here = and_parts (not (eqb x w)) (eqb (opposite x) y) found_x.2 in
      let is = eqb-true (opposite x) y here.1 in
      some_from outside x lits found_x.1 (and_from _ _ here.0 (and_from _ _ (sym (plain_opposite x) ∙ ap (plain_lit row) is ∙ parts.0) (ap (λ z. has z ds) is ∙ in_has y ds found.1)))

  pub blocks_within : blocks_in row lits w (record { tag = Working; lits = ds }) ≡ (not (has (opposite w) ds) || list_any within ds)
  unfolding blocks_in
  blocks_within = ap (λ b. not (has (opposite w) ds) || b) (same_from_decides (some outside lits) (some within ds) (to_within, from_within) (λ h. h, λ h. h) ∙ sym (some_is_any within ds))
