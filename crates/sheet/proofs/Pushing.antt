-- Words with a record written behind the first of them. Assumes nothing.
use Rattle.std.proofs.Common.{◌≡◌, ℕ, ◌+◌, ◌-◌, ◌≤◌, List, [], ◌∷◌, ◌++◌, length, take, set, refl, ap, ◌∙◌, arith}
use borrow.Rule.Slice.PartMut.{put_mid}
use Rattle.std.proofs.lemmas.List.{append_assoc, length-append, length-drop, length-set, length-take, take_more_set}
use Rattle.std.proofs.lemmas.Slice.{take-put_mid}

pub pushed : (s ws : List ℕ) (fill w t : ℕ) → fill + length ws + 2 ≤ length s
    → take (fill + length ws + 2) (set (set (put_mid fill (fill + length ws - fill) s ws) (fill + length ws) w) (fill + length ws + 1) t) ≡ take fill s ++ (ws ++ w ∷ t ∷ [])
pushed s ws fill w t room =
    let to = fill + length ws in
    let lits : List ℕ = put_mid fill (to - fill) s ws in
    let long : length lits ≡ length s = simp (length-append, length-take, length-drop) (omega arith) in
    let longer : length (set lits to w) ≡ length lits = length-set lits to w in
    let more : to + 2 ≡ to + 1 + 1 = omega arith in
    ap (λ n. take n (set (set lits to w) (to + 1) t)) more
    ∙ take_more_set (set lits to w) (to + 1) t (omega arith)
    ∙ ap (λ zs. zs ++ t ∷ []) (take_more_set lits to w (omega arith) ∙ ap (λ zs. zs ++ w ∷ []) (take-put_mid fill (to - fill) s ws to refl (omega arith)))
    ∙ simp append_assoc
