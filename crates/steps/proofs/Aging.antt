-- Rows in which items only retire. Assumes nothing.
use Rattle.std.proofs.Common.{◌≡◌, ℕ, zero, suc, ◌-◌, ◌<◌, ◌≤◌, Bool, true, false, ◌&&◌, List, length, sym, refl, ap, ◌∙◌, subst, inl, inr, arith}
use Rattle.std.specs.List.{AllByRecursion}
use Rattle.std.proofs.ByRecursion.{All-get_or, All-from_get_or}
use Rattle.std.proofs.lemmas.List.{length-set}
use Rattle.std.proofs.lemmas.Bool.{both_ways, cases_eq}
use Rattle.sheet.specs.declared.row.Item.{Item}
use Rattle.sheet.specs.declared.row.Standing.{Standing}
use Rattle.sheet.specs.declared.row.Standing.TheVariants.{Plain, Label, Fixed, Covered, Forced}
use Rattle.sheet.specs.Rows.{is_live, is_label, absent, item_at, live_at, label_at, label_ordinals}
use Rattle.sheet.specs.Together.{Distinct, OrdinalOf}
use Rattle.meaning.specs.Answers.{Values}
use Rattle.meaning.specs.Unwinding.{reset}
use Rattle.meaning.proofs.Places.{item_inside, set_here, set_other}
use Rattle.meaning.proofs.Ordinals.{label_apart, labels_distinct}
use Rattle.meaning.proofs.Agreement.{reset_live}
use Rattle.steps.specs.Rewriting.{is_plain, is_payable, plain_at, payable_at, retired}

-- Standings.

pub plain_live : (x : Standing) → is_plain x ≡ true → is_live x ≡ true
plain_live Plain is = refl
plain_live Label is = absurd (both_ways false refl is)
plain_live Fixed is = is
plain_live Covered is = is
plain_live Forced is = is

pub plain_unlabelled : (x : Standing) → is_plain x ≡ true → is_label x ≡ false
plain_unlabelled Plain is = refl
plain_unlabelled Label is = absurd (both_ways false refl is)
plain_unlabelled Fixed is = refl
plain_unlabelled Covered is = absurd (both_ways false refl is)
plain_unlabelled Forced is = absurd (both_ways false refl is)

pub payable_live : (x : Standing) → is_payable x ≡ true → is_live x ≡ true
payable_live Plain is = refl
payable_live Label is = refl
payable_live Fixed is = is
payable_live Covered is = is
payable_live Forced is = is

pub payable_label : (x : Standing) → is_payable x ≡ true → is_label x ≡ true
payable_label Plain is = is
payable_label Label is = refl
payable_label Fixed is = is
payable_label Covered is = refl
payable_label Forced is = refl

pub unlabelled_unpayable : (x : Standing) → is_label x ≡ false → is_payable x ≡ false
unlabelled_unpayable Plain none = refl
unlabelled_unpayable Label none = none
unlabelled_unpayable Fixed none = refl
unlabelled_unpayable Covered none = refl
unlabelled_unpayable Forced none = refl

-- no live label is plain
pub payable_apart : (row : List Item) (i j : ℕ) → payable_at row i ≡ true → plain_at row j ≡ true → i ≡ j → ⊥
payable_apart row i j payable plain same =
    both_ways (label_at row j) (plain_unlabelled (item_at row j).standing plain) (ap (label_at row) (sym same) ∙ payable_label (item_at row i).standing payable)

-- The same items, labels with their ordinals, and what was retired stays as it was.
pub record Aged (before after : List Item) : Type 0 where
  pub items : length after ≡ length before
  pub retired : (i : ℕ) → live_at before i ≡ false → item_at after i ≡ item_at before i
  pub labels : (i : ℕ) → label_at after i ≡ label_at before i
  pub ordinals : (i : ℕ) → (item_at after i).ordinal ≡ (item_at before i).ordinal

pub aged_same : (row : List Item) → Aged row row
aged_same row = record { items = refl; retired = λ i gone. refl; labels = λ i. refl; ordinals = λ i. refl }

-- what an ordinal may be, by whether the item is a label
abbrev ByLabel : ℕ → Bool → ℕ → Type 0
ByLabel n true o = o < n
ByLabel n false o = o ≡ 0

by_label : (n o : ℕ) (x : Standing) → OrdinalOf n x o → ByLabel n (is_label x) o
by_label n o Plain is = is
by_label n o Label is = is
by_label n o Fixed is = is
by_label n o Covered is = is
by_label n o Forced is = is

from_label : (n o : ℕ) (x : Standing) → ByLabel n (is_label x) o → OrdinalOf n x o
from_label n o Plain is = is
from_label n o Label is = is
from_label n o Fixed is = is
from_label n o Covered is = is
from_label n o Forced is = is

module _ {before after : List Item} (aged : Aged before after) where
  pub aged_ranged : (n : ℕ) → AllByRecursion (λ x. OrdinalOf n x.standing x.ordinal) before → AllByRecursion (λ x. OrdinalOf n x.standing x.ordinal) after
  aged_ranged n ranged = All-from_get_or _ after absent (λ j inside.
      let long = aged.items in
      let was = by_label n _ _ (All-get_or _ before j absent (omega arith) ranged) in
      from_label n _ _ (rw (aged.labels (suc j), aged.ordinals (suc j)) was))

  pub aged_apart : Distinct (label_ordinals before) → Distinct (label_ordinals after)
  aged_apart apart = labels_distinct after (λ i j one other same. label_apart before apart i j (sym (aged.labels i) ∙ one) (sym (aged.labels j) ∙ other) (sym (aged.ordinals i) ∙ same ∙ aged.ordinals j))

-- One live item retires.

pub live_inside : (row : List Item) (i : ℕ) → live_at row i ≡ true → (1 ≤ i) × (i ≤ length row)
live_inside row zero live = absurd (both_ways false refl live)
live_inside row (suc i) live = (omega arith, item_inside is_live refl row (suc i) live)

module _ (row : List Item) (i : ℕ) (standing : Standing) (live : live_at row i ≡ true) where
  pub retired_here : item_at (retired row i standing) i ≡ record { standing = standing; ordinal = (item_at row i).ordinal }
  retired_here = let inside = live_inside row i live in set_here row i _ inside.0 inside.1

  pub retired_other : (j : ℕ) → (j ≡ i → ⊥) → item_at (retired row i standing) j ≡ item_at row j
  retired_other j other = set_other row i j _ (live_inside row i live).0 other

  pub retired_cases : (P : Item → Type 0) (j : ℕ) → (j ≡ i → P (record { standing = standing; ordinal = (item_at row i).ordinal })) → ((j ≡ i → ⊥) → P (item_at row j)) → P (item_at (retired row i standing) j)
  retired_cases P j here there = elim (cases_eq j i) [
    | inl same ↦ subst P (sym (ap (item_at (retired row i standing)) same ∙ retired_here)) (here same)
    | inr other ↦ subst P (sym (retired_other j other)) (there other)
  ]

  pub aged_retired : is_label standing ≡ label_at row i → Aged row (retired row i standing)
  aged_retired label = record {
    items = length-set row (i - 1) _;
    retired = λ j gone. retired_other j (λ same. both_ways (live_at row j) gone (ap (live_at row) same ∙ live));
    labels = λ j. retired_cases (λ x. is_label x.standing ≡ label_at row j) j (λ same. label ∙ ap (label_at row) (sym same)) (λ other. refl);
    ordinals = λ j. retired_cases (λ x. x.ordinal ≡ (item_at row j).ordinal) j (λ same. ap (λ n. (item_at row n).ordinal) (sym same)) (λ other. refl);
  }

  pub reset_other : (v : Values) (j : ℕ) → (j ≡ i → ⊥) → live_at row j ≡ true → reset (retired row i standing) v j ≡ v j
  reset_other v j other live = reset_live (retired row i standing) v j (ap (λ x. is_live x.standing) (retired_other j other) ∙ live)

  pub reset_here : (v : Values) → is_live standing ≡ false → reset (retired row i standing) v i ≡ false
  reset_here v gone = ap (λ x. is_live x.standing && v i) retired_here ∙ ap (λ b. b && v i) gone
