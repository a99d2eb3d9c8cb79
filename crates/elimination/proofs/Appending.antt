-- Words written at the front of free words, part by part: what is written and what is left make up the whole. Assumes nothing.
use Rattle.std.proofs.Common.{◌≡◌, ℕ, ◌+◌, ◌-◌, ◌<◌, ◌≤◌, Bool, true, false, ◌&&◌, leb, List, [], ◌∷◌, ◌++◌, length, take, drop, sym, refl, ap, ◌∙◌, inl, inr, arith}
use Rattle.std.proofs.Math.Seq.{take-append-add}
use Rattle.std.proofs.lemmas.List.{append_assoc, length-append, length-drop, length-take-le, take-take}
use Rattle.std.proofs.lemmas.Slice.{take-put_mid}
use borrow.Rule.Slice.PartMut.{put_mid, same_len_mid}
use Rattle.std.proofs.lemmas.Bool.{and_cases, and_left, and_right, lt-leb, leb-false}
use Rattle.sheet.specs.Clauses.{Clause, encode}
use Rattle.sheet.proofs.Laying.{encode_append}
use Rattle.steps.specs.Places.{every}
use Rattle.steps.specs.Elimination.{is_counted}
use Rattle.elimination.specs.Writing.{Written, clauses_room}

-- Words.

pub record Writing (s cur : List ℕ) (n : ℕ) (left total : List ℕ) : Type 0 where
  pub long : length cur ≡ length s
  pub fits : n ≤ length s
  pub words : take n cur ++ left ≡ total

module _ {s cur : List ℕ} {n : ℕ} {left total : List ℕ} (h : Writing s cur n left total) where
  sum : n + length left ≡ length total
  sum =
      let whole = ap length h.words in
      let count = length-take-le n cur (omega (arith, h.long, h.fits)) in
      omega (arith, length-append (take n cur) left)

  module _ (part left' : List ℕ) (parts : left ≡ part ++ left') where
    pub writing_full : length s < n + length part → length s < length total
    writing_full past = omega (arith, sum, ap length parts, length-append part left')

    pub writing_more : (cur' : List ℕ) (n' : ℕ) → length cur' ≡ length cur → n' ≤ length s → take n' cur' ≡ take n cur ++ part → Writing s cur' n' left' total
    writing_more cur' n' long fits words = record {
      long = long ∙ h.long;
      fits = fits;
      words = ap (λ ws. ws ++ left') words ∙ append_assoc (take n cur) part left' ∙ ap (λ ws. take n cur ++ ws) (sym parts) ∙ h.words;
    }

-- Clauses.

every_append : {X : Type 0} (test : X → Bool) (xs ys : List X) → every test (xs ++ ys) ≡ (every test xs && every test ys)
every_append test [] ys = refl
every_append test (x ∷ xs) ys = ap (λ b. test x && b) (every_append test xs ys) ∙ assoc (test x) (every test xs) (every test ys)
  where
    assoc : (a b c : Bool) → (a && (b && c)) ≡ ((a && b) && c)
    assoc true b c = refl
    assoc false b c = refl

pub record WritingClauses (s cur : List ℕ) (n : ℕ) (left total : List Clause) : Type 0 where
  pub words : Writing s cur n (encode left) (encode total)
  pub counted : every is_counted left ≡ every is_counted total

module _ {s cur : List ℕ} {n : ℕ} {left total : List Clause} (h : WritingClauses s cur n left total) where
  -- the next part is written into the words that are still free
  module _ (part left' : List Clause) (parts : left ≡ part ++ left') where
    counts : every is_counted total ≡ (every is_counted part && every is_counted left')
    counts = sym h.counted ∙ ap (every is_counted) parts ∙ every_append is_counted part left'

    cut : encode left ≡ encode part ++ encode left'
    cut = ap encode parts ∙ encode_append part left'

    room : length (take (length cur - n) (drop n cur)) ≡ length cur - n
    room = length-take-le (length cur - n) (drop n cur) (omega (arith, length-drop n cur))

    pub clauses_full : clauses_room (length (take (length cur - n) (drop n cur))) part ≡ false → clauses_room (length s) total ≡ false
    clauses_full none = elim (and_cases (every is_counted part) (leb (length (encode part)) (length (take (length cur - n) (drop n cur)))) none) [
      | inl many ↦ and_left (every is_counted total) (leb (length (encode total)) (length s)) (counts ∙ and_left (every is_counted part) (every is_counted left') many)
      | inr past ↦
          let beyond = leb-false (length (encode part)) (length (take (length cur - n) (drop n cur))) past in
          let long = h.words.long in
          and_right (every is_counted total) (leb (length (encode total)) (length s))
          (lt-leb (length (encode total)) (length s) (writing_full h.words (encode part) (encode left') cut (omega (arith, room))))
    ]

    pub clauses_more : (m : ℕ) (sub : List ℕ) → length sub ≡ length cur - n → (every is_counted part ≡ true) × Written (take (length cur - n) (drop n cur)) sub (encode part) m
        → WritingClauses s (put_mid n (length cur - n) cur sub) (n + m) left' total
    clauses_more m sub size (few, done) =
        let k = length cur - n in
        let long = h.words.long in
        let fits = h.words.fits in
        let inside = done.fits in
        let whole = take-put_mid n k cur sub (n + length sub) refl (omega arith) in
        let count = length-take-le n cur (omega arith) in
        record {
          words = writing_more h.words (encode part) (encode left') cut (put_mid n k cur sub) (n + m) (same_len_mid n k cur sub (size ∙ sym room)) (omega (arith, room))
              (sym (take-take (n + m) (n + length sub) (put_mid n k cur sub) (omega (arith, room))) ∙ ap (take (n + m)) whole ∙ ap (λ i. take (i + m) (take n cur ++ sub)) (sym count) ∙ take-append-add (take n cur) sub m
              ∙ ap (λ ws. take n cur ++ ws) done.words);
          counted = sym (counts ∙ ap (λ b. b && every is_counted left') few);
        }
