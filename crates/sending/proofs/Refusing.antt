-- What holds where no literal is refused. Assumes nothing.
use Rattle.std.proofs.Common.{◌≡◌, ℕ, ◌+◌, ◌≤◌, leb, not, List, [], ◌∷◌, ℤ, None, sym, inl, inr, arith}
use Rattle.std.specs.List.{position_from}
use Rattle.std.proofs.ByRecursion.{All-weaker}
use Rattle.std.proofs.lemmas.Bool.{and_parts, cases_Bool, leb-true}
use Rattle.std.proofs.lemmas.Option.{none-some}
use Rattle.meaning.specs.Accepted.{sent_item}
use Rattle.sending.specs.Sending.{InRange, named}

-- every literal names an item
pub none_bad : (n i : ℕ) (zs : List ℤ) → position_from (λ z. not (named n z)) i zs ≡ None → InRange n zs
none_bad n i [] none = tt
none_bad n i (z ∷ zs) none =
    elim (cases_Bool (named n z)) [
      | inl passes ↦
          let both = and_parts (leb 1 (sent_item z)) (leb (sent_item z) n) passes in
          ((leb-true 1 (sent_item z) both.0, leb-true (sent_item z) n both.1), none_bad n (i + 1) zs (rw passes at none))
      | inr fails ↦ absurd (none-some i (sym (rw fails at none)))
    ]

pub in_range_wider : (n m : ℕ) (zs : List ℤ) → n ≤ m → InRange n zs → InRange m zs
in_range_wider n m zs wider in-range = All-weaker _ (λ z. (1 ≤ sent_item z) × (sent_item z ≤ m)) (λ z both. (both.0, omega arith)) zs in-range
