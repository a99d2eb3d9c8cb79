-- What the search for labels that cover one tells of it. Assumes nothing.
use Rattle.std.proofs.Common.{◌≡◌, ℕ, ◌-◌, ◌<◌, ◌≤◌, Bool, true, false, ◌&&◌, length, is_some, None, Option, sym, refl, ap, ◌∙◌, ap₂}
use Rattle.std.proofs.lemmas.Bool.{and_right}
use Rattle.weight.specs.Kind.{Kind}
use Rattle.sheet.specs.Sheets.{Sheet}
use Rattle.steps.specs.Covering.{covers, is_covered}
use Rattle.steps.specs.Places.{lowest_item, nameable}
use Rattle.steps.specs.Rewriting.{payable_at}
use Rattle.covering.proofs.Searches.{lowest_none, lowest_here}

module _ {V : Type 0} (k : Kind V) (s : Sheet V) (l : ℕ) where
  -- the search for a label that covers l
  abbrev pub coverer : Option ℕ
  coverer = lowest_item (covers k s l) 1 (nameable (length s.row))

  pub no_label : payable_at s.row l ≡ false → is_covered k s l ≡ false
  no_label not-payable = ap (λ b. b && is_some coverer) not-payable

  pub not_covered : coverer ≡ None → is_covered k s l ≡ false
  not_covered none = ap (λ o. payable_at s.row l && is_some o) none ∙ and_right (payable_at s.row l) false refl

  -- a search up to `end` that has come as far as m
  module _ (end : ℕ) (last : end - 1 ≡ nameable (length s.row)) (m : ℕ) (so-far : lowest_item (covers k s l) m (end - m) ≡ lowest_item (covers k s l) 1 (end - 1)) where
    whole : coverer ≡ lowest_item (covers k s l) m (end - m)
    whole = sym (so-far ∙ ap (lowest_item (covers k s l) 1) last)

    pub searched : end ≤ m → is_covered k s l ≡ false
    searched past = not_covered (whole ∙ lowest_none (covers k s l) end m past)

    pub covered_by : m < end → payable_at s.row l ≡ true → covers k s l m ≡ true → is_covered k s l ≡ true
    covered_by less payable here = ap₂ (λ (b : Bool) (o : Option ℕ). b && is_some o) payable (whole ∙ lowest_here (covers k s l) end m less here)
