-- One clause moved down without a literal: its other literals, moved to the front, slide down, and are made a clause there. Assumes nothing.
use Rattle.std.proofs.Common.{◌≡◌, ℕ, ◌+◌, ◌-◌, ◌<◌, ◌≤◌, List, ◌++◌, length, take, drop, sym, ap, ◌∙◌, ap₂, arith}
use borrow.Rule.Slice.PartMut.{put_mid}
use Rattle.std.specs.List.{between}
use Rattle.std.proofs.lemmas.List.{length-take-le, take-append-drop, take-append-le, take-take}
use Rattle.std.proofs.lemmas.Slice.{between-put_mid, drop-put_mid, take-put_mid_below}
use Rattle.sheet.proofs.Cuts.{between_zero, cut_front, cut_back, drop_later}

-- s with ws in place of the words from `from` up to `to`, of which the first `count` are those kept
module _ (s ws kept : List ℕ) (out from to count : ℕ) (down : out < from) (order : from ≤ to) (fits : to ≤ length s)
    (long : length ws ≡ to - from) (few : count ≤ to - from) (front : take count ws ≡ kept) where
  abbrev changed : List ℕ
  changed = put_mid from (to - from) s ws

  kept_part : between from (from + count) changed ≡ kept
  kept_part =
      cut_front changed from (from + count) to (take count ws) (drop count ws)
      (between-put_mid from (to - from) s ws to (omega arith) long ∙ sym (take-append-drop count ws))
      (let same = length-take-le count ws (omega arith) in omega arith) order
      ∙ front

  -- slid down to behind `out`
  module _ (slid : List ℕ) (size : ℕ) (end : size ≡ out + 1 + ((from + count) - from)) (down-there : take size slid ≡ take (out + 1) changed ++ between from (from + count) changed)
      (behind : drop (from + count) slid ≡ drop (from + count) changed) where
    slid_front : take (out + 1 + count) slid ≡ take (out + 1) s ++ kept
    slid_front =
        let same : out + 1 + count ≡ size = omega arith in
        ap (λ n. take n slid) same ∙ down-there
        ∙ ap₂ (λ (xs ys : List ℕ). xs ++ ys) (take-put_mid_below from (to - from) s ws (out + 1) (omega arith) (omega arith)) kept_part

    -- what lies before, what lies there, and what lies behind
    pub moved_down : (take out slid ≡ take out s) × (between (out + 1) (out + 1 + count) slid ≡ kept) × ((end : ℕ) → to ≤ end → drop end slid ≡ drop end s)
    moved_down =
        let one : out ≤ out + 1 = omega arith in
        let long_front = length-take-le (out + 1) s (omega arith) in (
          sym (take-take out (out + 1 + count) slid (omega arith)) ∙ ap (take out) slid_front ∙ take-append-le out (take (out + 1) s) kept (omega arith) ∙ take-take out (out + 1) s one,
          cut_back slid 0 (out + 1) (out + 1 + count) (take (out + 1) s) kept (between_zero slid (out + 1 + count) ∙ slid_front) (omega arith),
          λ end past. drop_later slid changed (from + count) end (omega arith) behind ∙ drop-put_mid from (to - from) s ws end (omega arith) (omega arith) long,
        )
