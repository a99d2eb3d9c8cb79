-- What a row costs where one of its items is retired, and what a step that retires one keeps. Assumes nothing.
use Rattle.std.proofs.Common.{◌≡◌, ℕ, zero, suc, ◌-◌, ◌≤◌, Bool, true, false, List, length, sym, refl, ap, ◌∙◌, inl, inr, arith}
use Rattle.std.proofs.lemmas.List.{length-set, set-set, set-get_or}
use Rattle.std.proofs.lemmas.Bool.{both_ways, cases_Bool}
use Rattle.weight.specs.Kind.{Kind, Lawful}
use Rattle.weight.proofs.Orders.{order_refl, zero_sum}
use Rattle.sheet.specs.declared.row.Item.{Item}
use Rattle.sheet.specs.declared.row.Standing.{Standing}
use Rattle.sheet.specs.declared.row.Standing.TheVariants.{Covered}
use Rattle.sheet.specs.Literals.{item_of, denied}
use Rattle.sheet.specs.Rows.{is_live, absent, item_at, live_at, label_at}
use Rattle.sheet.specs.Clauses.{Clause}
use Rattle.sheet.specs.Records.{Record}
use Rattle.sheet.specs.Sheets.{Sheet}
use Rattle.meaning.specs.Answers.{Values, Answer, weight_of, charge, row_cost, cost, AtMost}
use Rattle.meaning.specs.Unwinding.{reset, unwound}
use Rattle.meaning.specs.Running.{Holds, NamesLive, Meaning}
use Rattle.meaning.proofs.Agreement.{row_alike}
use Rattle.meaning.proofs.Costs.{charged, sum_both, working_free, row_set}
use Rattle.steps.specs.Rewriting.{retired}
use Rattle.steps.specs.Keeping.{Agrees}
use Rattle.steps.proofs.Members.{In, all_in, all_from_in}
use Rattle.steps.proofs.Aging.{live_inside, retired_here, retired_cases}
use Rattle.steps.proofs.Holding.{ClauseHolds, Grown, grown_holds}

-- an item that stands as it did
pub retired_same : (row : List Item) (i : ℕ) → 1 ≤ i → retired row i (item_at row i).standing ≡ row
retired_same row zero low = absurd (omega arith)
retired_same row (suc i) low = let place : suc i - 1 ≡ i = omega arith in rw place (set-get_or row i absent)

-- it is another item that is still live
pub still_live : (row : List Item) (i : ℕ) (x : Standing) → live_at row i ≡ true → is_live x ≡ false → (j : ℕ) → live_at (retired row i x) j ≡ true → (j ≡ i → ⊥) × (live_at row j ≡ true)
still_live row i x live gone j =
    retired_cases row i x live (λ item. is_live item.standing ≡ true → (j ≡ i → ⊥) × (live_at row j ≡ true)) j
    (λ same still. absurd (both_ways (is_live x) gone still))
    (λ other still. (other, still))

-- no clause denies a label
pub label_affirmed : {row : List Item} {c : Clause} → ClauseHolds row c → (w : ℕ) → In w c.lits → label_at row (item_of w) ≡ true → denied w ≡ false
label_affirmed {row} {c} holds w among label = elim (cases_Bool (denied w)) [
  | inl denial ↦ let here = all_in _ w c.lits holds.stands among in absurd (both_ways (label_at row (item_of w)) (here.undenied here.literal.high denial) label)
  | inr affirmed ↦ affirmed
]

-- Costs.

-- values that agree on the live items other than i
abbrev pub Elsewhere : List Item → ℕ → Values → Values → Type 0
Elsewhere row i u v = (j : ℕ) → (j ≡ i → ⊥) → live_at row j ≡ true → u j ≡ v j

-- what item i costs where it stands as x
abbrev pub charged_as : {V : Type 0} → Kind V → List V → List Item → ℕ → Standing → Bool → V
charged_as k weights row i x yes' = charge k (weight_of k weights (item_at row i).ordinal) x yes'

module _ {V : Type 0} {k : Kind V} (laws : Lawful k) (weights : List V) (row : List Item) (i : ℕ) (live : live_at row i ≡ true) where
  -- the charge of the item, and what the row costs without it
  pub retired_cost : (x : Standing) (v : Values) → row_cost k weights v 1 (retired row i x) ≡ k.sum (charged_as k weights row i x (v i)) (row_cost k weights v 1 (retired row i Covered))
  retired_cost x v =
      let inside = live_inside row i live in
      let high : i ≤ length (retired row i Covered) = rw length-set inside.1 in
      let set-again = row_set laws weights v (retired row i Covered) i (record { standing = x; ordinal = (item_at row i).ordinal }) inside.0 high in
      sym (zero_sum laws _) ∙ rw (retired_here row i Covered live, set-set row (i - 1) _ _) at set-again

  pub row_cost_lem : (v : Values) → row_cost k weights v 1 row ≡ k.sum (charged k weights v (item_at row i) i) (row_cost k weights v 1 (retired row i Covered))
  row_cost_lem v = rw (retired_same row i (live_inside row i live).0) at (retired_cost (item_at row i).standing v)

  -- the charge of the one item decides
  charge_decides : (x y : Standing) (u v : Values) → Elsewhere row i u v → AtMost k (charged_as k weights row i x (u i)) (charged_as k weights row i y (v i)) → AtMost k (row_cost k weights u 1 (retired row i x)) (row_cost k weights v 1 (retired row i y))
  charge_decides x y u v same less =
      let others = row_alike k weights u v (retired row i Covered) (λ j still. let was = still_live row i Covered live refl j still in same j was.0 was.1) in
      rw (retired_cost x u, retired_cost y v, others) (sum_both laws less (order_refl laws _))

  -- of the row as it was and the row with the item retired, the one that is no dearer for the item
  pub retired_cheaper : (x : Standing) (u v : Values) → Elsewhere row i u v → AtMost k (charged_as k weights row i x (u i)) (charged k weights v (item_at row i) i) → AtMost k (row_cost k weights u 1 (retired row i x)) (row_cost k weights v 1 row)
  retired_cheaper x u v same less = rw (retired_same row i (live_inside row i live).0) at (charge_decides x (item_at row i).standing u v same less)

  pub retired_dearer : (x : Standing) (u v : Values) → Elsewhere row i u v → AtMost k (charged k weights u (item_at row i) i) (charged_as k weights row i x (v i)) → AtMost k (row_cost k weights u 1 row) (row_cost k weights v 1 (retired row i x))
  retired_dearer x u v same less = rw (retired_same row i (live_inside row i live).0) at (charge_decides (item_at row i).standing x u v same less)

-- a sheet at work has no softs to break
pub working_cost : {V : Type 0} {k : Kind V} → Lawful k → {s : Sheet V} → Holds k s → (v : Values) → cost k s v ≡ row_cost k s.weights v 1 s.row
working_cost {k = k} laws {s = s} holds v = ap (k.sum (row_cost k s.weights v 1 s.row)) (working_free laws s.weights v s.clauses holds.kinds) ∙ laws.sum_zero _

-- What a step keeps, once answers are known to go back and forth.

module _ {V : Type 0} {k : Kind V} {s t : Sheet V} {news : List Record} (holds : Holds k s) (grown : Grown s t news) where
  -- an answer of t, with the new records unwound
  abbrev before : Values → Values
  before v = unwound news (reset t.row v)

  pub grown_keeps : ((r : Record) → In r news → NamesLive s.row r) → ((v : Values) → Answer t v → Answer s (before v) × AtMost k (cost k s (before v)) (cost k t v)) → Agrees k s t → Meaning k s t × Agrees k s t
  grown_keeps names back agrees = (
    record {
      callers = grown.callers;
      weights = grown.weights;
      items = grown.aged.items;
      retired = grown.aged.retired;
      labels = λ i label. (grown.aged.labels i ∙ label, grown.aged.ordinals i);
      holds = grown_holds holds grown;
      news = news;
      stack = grown.stack;
      names = all_from_in _ news names;
      back = back;
      forth = λ v answer. let found = agrees v answer in (found.0, found.1, found.2);
    },
    agrees,
  )
