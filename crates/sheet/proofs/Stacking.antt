-- Records of the reconstruction stack written to words and read back, the newest behind the others. Assumes nothing.
use Rattle.std.proofs.Common.{◌≡◌, ℕ, zero, suc, ◌+◌, ◌-◌, ◌*◌, ◌/◌, ◌%◌, ◌<◌, ◌≤◌, List, [], ◌∷◌, ◌++◌, reverse, length, get_or, take, drop, sym, refl, ap, ◌∙◌, subst, append_assoc, append-nil, arith, length-append}
use mathlib.Core.List.{reverse-cons, reverse-append, reverse-reverse}
use lib.ListN.{length-reverse}
use Rattle.std.specs.List.{AllByRecursion}
use Rattle.std.proofs.lemmas.List.{append_cancel_right, length-drop, take_at, drop_at, get_or_push}
use Rattle.std.proofs.ByRecursion.{All-push, All-take, All-drop}
use Rattle.sheet.specs.Records.{Record, record_words, encode_stack, newest, records, ValidRecord, Stacked}

-- fuel beyond the words changes nothing
newest_enough : (n m : ℕ) (ws : List ℕ) → length ws ≤ n → length ws ≤ m → newest n ws ≡ newest m ws
newest_enough zero zero ws p q = refl
newest_enough zero (suc m) [] p q = refl
newest_enough zero (suc m) (t ∷ ws) p q = absurd (omega arith)
newest_enough (suc n) zero [] p q = refl
newest_enough (suc n) zero (t ∷ ws) p q = absurd (omega arith)
newest_enough (suc n) (suc m) [] p q = refl
newest_enough (suc n) (suc m) (t ∷ []) p q = refl
newest_enough (suc n) (suc m) (t ∷ w ∷ ws) p q =
    ap (λ z. record { code = t / 4096; lits = reverse (take (t % 4096) ws); witness = w } ∷ z)
    (newest_enough n m (drop (t % 4096) ws) (simp length-drop (omega arith)) (simp length-drop (omega arith)))

pub records_nil : records [] ≡ []
unfolding records
records_nil = refl

pub stacked_nil : Stacked []
unfolding Stacked records
stacked_nil = (refl, tt)

pub records_append : (xs : List ℕ) (r : Record) → length r.lits < 4096 → records (xs ++ record_words r) ≡ records xs ++ r ∷ []
unfolding records
records_append xs r few =
    let trailer : ℕ = r.code * 4096 + length r.lits in
    let back : List ℕ = reverse r.lits ++ reverse xs in
    let more : ℕ = length xs + length r.lits + 1 in
    let long : length (xs ++ record_words r) ≡ suc more = simp length-append (omega arith) in
    let turned : reverse (xs ++ record_words r) ≡ trailer ∷ r.witness ∷ back = reverse-append xs (record_words r) ∙ ap (λ z. z ++ reverse xs) (reverse-append r.lits (r.witness ∷ trailer ∷ [])) in
    let code : trailer / 4096 ≡ r.code = omega arith in
    let count : length (reverse r.lits) ≡ trailer % 4096 = simp length-reverse (omega arith) in
    let lits : take (trailer % 4096) back ≡ reverse r.lits = take_at (reverse r.lits) (reverse xs) (trailer % 4096) count in
    let rest : drop (trailer % 4096) back ≡ reverse xs = drop_at (reverse r.lits) (reverse xs) (trailer % 4096) count in
    let enough : newest more (reverse xs) ≡ newest (length xs) (reverse xs) = newest_enough more (length xs) (reverse xs) (simp length-reverse (omega arith)) (simp length-reverse (omega arith)) in
    rw (long, turned, code, lits, rest, enough, reverse-reverse r.lits) (reverse-cons r (newest (length xs) (reverse xs)))

pub encode_stack_append : (rs ss : List Record) → encode_stack (rs ++ ss) ≡ encode_stack rs ++ encode_stack ss
encode_stack_append [] ss = refl
encode_stack_append (r ∷ rs) ss =
    ap (λ z. record_words r ++ z) (encode_stack_append rs ss) ∙ sym (append_assoc (record_words r) (encode_stack rs) (encode_stack ss))

encode_stack_push : (rs : List Record) (r : Record) → encode_stack (rs ++ r ∷ []) ≡ encode_stack rs ++ record_words r
encode_stack_push rs r = encode_stack_append rs (r ∷ []) ∙ ap (λ z. encode_stack rs ++ z) (append-nil (record_words r))

records_behind : (xs : List ℕ) (rs : List Record) → AllByRecursion ValidRecord rs → records (xs ++ encode_stack rs) ≡ records xs ++ rs
records_behind xs [] v = ap records (append-nil xs) ∙ sym (append-nil (records xs))
records_behind xs (r ∷ rs) v =
    ap records (sym (append_assoc xs (record_words r) (encode_stack rs)))
    ∙ records_behind (xs ++ record_words r) rs v.1
    ∙ ap (λ z. z ++ rs) (records_append xs r v.0.count.1)
    ∙ append_assoc (records xs) (r ∷ []) rs

pub records_encode : (rs : List Record) → AllByRecursion ValidRecord rs → records (encode_stack rs) ≡ rs
records_encode rs v = records_behind [] rs v ∙ ap (λ z. z ++ rs) records_nil

pub stacked_encode : (rs : List Record) → AllByRecursion ValidRecord rs → Stacked (encode_stack rs)
unfolding Stacked
stacked_encode rs v =
    let e = records_encode rs v in
    (ap encode_stack e, subst (λ z. AllByRecursion ValidRecord z) (sym e) v)

pub stacked_words : (ws : List ℕ) → Stacked ws → encode_stack (records ws) ≡ ws
unfolding Stacked
stacked_words ws s = s.0

pub stacked_valid : (ws : List ℕ) → Stacked ws → AllByRecursion ValidRecord (records ws)
unfolding Stacked
stacked_valid ws s = s.1

-- one more record at the end
module _ (xs : List ℕ) (r : Record) where
  pub stacked_append : Stacked xs → ValidRecord r → Stacked (xs ++ record_words r)
  stacked_append s v =
      subst (λ ws. Stacked ws)
      (encode_stack_push (records xs) r ∙ ap (λ z. z ++ record_words r) (stacked_words xs s))
      (stacked_encode (records xs ++ r ∷ []) (All-push ValidRecord (records xs) r (stacked_valid xs s) v))

  -- the same of words that are known to end with it, as they do once it is pushed
  module _ (ws : List ℕ) (pushed : ws ≡ xs ++ record_words r) (v : ValidRecord r) where
    pub stacked_pushed : Stacked xs → Stacked ws
    stacked_pushed s = subst (λ zs. Stacked zs) (sym pushed) (stacked_append s v)

    pub records_pushed : records ws ≡ records xs ++ r ∷ []
    records_pushed = ap records pushed ∙ records_append xs r v.count.1

  -- and back
  module _ (few : length r.lits < 4096) (s : Stacked (xs ++ record_words r)) where
    all_last : AllByRecursion ValidRecord (records xs ++ r ∷ [])
    all_last = subst (λ rs. AllByRecursion ValidRecord rs) (records_append xs r few) (stacked_valid (xs ++ record_words r) s)

    pub stacked_last : ValidRecord r
    stacked_last = (subst (λ rs. AllByRecursion ValidRecord rs) (drop_at (records xs) (r ∷ []) (length (records xs)) refl) (All-drop ValidRecord (length (records xs)) (records xs ++ r ∷ []) all_last)).0

    pub stacked_front : Stacked xs
    unfolding Stacked
    stacked_front = (
      append_cancel_right (encode_stack (records xs)) xs (record_words r)
          (sym (encode_stack_push (records xs) r) ∙ ap encode_stack (sym (records_append xs r few)) ∙ stacked_words (xs ++ record_words r) s),
      subst (λ rs. AllByRecursion ValidRecord rs) (take_at (records xs) (r ∷ []) (length (records xs)) refl) (All-take ValidRecord (length (records xs)) (records xs ++ r ∷ []) all_last),
    )

-- the last word counts no more literals than there are words in front of the witness
abbrev Room : List ℕ → Type 0
Room ws = get_or ws (length ws - 1) 0 % 4096 + 2 ≤ length ws

room_last : (xs : List ℕ) (r : Record) → length r.lits < 4096 → Room (xs ++ record_words r)
room_last xs r few =
    let trailer : ℕ = r.code * 4096 + length r.lits in
    let front : List ℕ = xs ++ (r.lits ++ r.witness ∷ []) in
    let split : xs ++ record_words r ≡ front ++ trailer ∷ [] = simp append_assoc in
    let long : length (front ++ trailer ∷ []) ≡ length xs + length r.lits + 2 = simp length-append (omega arith) in
    let read : get_or (front ++ trailer ∷ []) (length (front ++ trailer ∷ []) - 1) 0 ≡ trailer = get_or_push front trailer 0 (length (front ++ trailer ∷ []) - 1) (simp length-append (omega arith)) in
    rw split (omega arith)

room_behind : (xs : List ℕ) (r : Record) (rs : List Record) → AllByRecursion ValidRecord (r ∷ rs) → Room (xs ++ encode_stack (r ∷ rs))
room_behind xs r [] v = subst (λ ws. Room (xs ++ ws)) (sym (append-nil (record_words r))) (room_last xs r v.0.count.1)
room_behind xs r (q ∷ rs) v = subst (λ ws. Room ws) (append_assoc xs (record_words r) (encode_stack (q ∷ rs))) (room_behind (xs ++ record_words r) q rs v.1)

room_all : (rs : List Record) → AllByRecursion ValidRecord rs → 0 < length (encode_stack rs) → Room (encode_stack rs)
room_all [] v some = absurd (omega arith)
room_all (r ∷ rs) v some = room_behind [] r rs v

pub stacked_room : (ws : List ℕ) → Stacked ws → 0 < length ws → get_or ws (length ws - 1) 0 % 4096 + 2 ≤ length ws
stacked_room ws s = subst (λ z. 0 < length z → Room z) (stacked_words ws s) (room_all (records ws) (stacked_valid ws s))
