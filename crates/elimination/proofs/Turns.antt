-- An elimination: what the search for it answers, and the buffers behind it. Assumes nothing.
use Rattle.std.proofs.Common.{◌≡◌, ℕ, ◌+◌, ◌-◌, ◌<◌, ◌≤◌, min, Bool, true, false, ◌&&◌, leb, List, length, take, Some, None, Option, MatchOption, sym, refl, ap, ◌∙◌, subst, ap₂, arith}
use Rattle.std.specs.Option.{option_map}
use Rattle.std.proofs.lemmas.List.{drop-set-lt, length-set, length-take-le}
use Rattle.weight.specs.declared.kind.Weight.{Ghosts}
use Rattle.sheet.specs.declared.buffers.Marks.{Marks}
use Rattle.sheet.specs.declared.row.Item.{Item}
use Rattle.sheet.specs.declared.row.Standing.TheVariants.{Fixed}
use Rattle.sheet.specs.Rows.{item_at}
use Rattle.sheet.specs.Together.{HoldsTogether}
use Rattle.sheet.specs.declared.buffers.Phase.TheVariants.{Working as at_work}
use Rattle.sheet.specs.Clauses.{Clause, Laid, clauses, encode}
use Rattle.sheet.specs.Records.{Record, Stacked, records, encode_stack}
use Rattle.sheet.specs.Sheets.{Sheet, Lent, used_clauses, used_row, used_records, decoded}
use Rattle.sheet.proofs.Laying.{encode_laid}
use Rattle.sheet.proofs.Stacking.{stacked_words}
use Rattle.steps.specs.Places.{every, nameable}
use Rattle.steps.specs.Rewriting.{retired}
use Rattle.steps.specs.Rooms.{Room, room_of}
use Rattle.steps.specs.Elimination.{resolvents, may_go, first_to_go, eliminated, elimination, elimination_records, is_counted, elimination_fits}
use Rattle.steps.proofs.Placing.{item_place}
use Rattle.rules.proofs.Holding.{Framed, framed, holds}
use Rattle.rules.specs.Stepping.{IsThere, StepAnswered}
use Rattle.rewriting.proofs.Rows.{retired_front, row_front}
use Rattle.elimination.specs.Eliminating.{Eliminable, lowest_to_go, Words, step_fits, Made, GivenUp}
use Rattle.elimination.proofs.Eliminables.{eliminable}

-- its sheet and stack
abbrev pub words_of : {W : Type 0} → Lent W → Words
words_of b = record { sheet = b.sheet; stack = b.stack; marks = b.marks }

-- the buffers with other words and another row
abbrev pub with_words : {W : Type 0} → Lent W → Words → List Item → Lent W
with_words b w row = record { sheet = w.sheet; row = row; stack = w.stack; weights = b.weights; marks = w.marks; counts = b.counts }

abbrev pub fits_in : {V : Type 0} → Room → Sheet V → Bool
fits_in room t = elimination_fits room t (first_to_go t)

module _ {W : Type 0} (m : Ghosts W) (b : Lent W) where
  searches : first_to_go (decoded m b) ≡ lowest_to_go b
  unfolding decoded
  searches = refl

  none_left : lowest_to_go b ≡ None → elimination (decoded m b) ≡ None
  unfolding elimination
  none_left none = ap (option_map (eliminated (decoded m b))) (searches ∙ none)

  one_left : (x : ℕ) → lowest_to_go b ≡ Some x → elimination (decoded m b) ≡ Some (eliminated (decoded m b) x)
  unfolding elimination
  one_left x found = ap (option_map (eliminated (decoded m b))) (searches ∙ found)

  -- what the search answers
  pub item_found : {P : Type 0} → P → (o : Option ℕ) → o ≡ lowest_to_go b → MatchOption o (elimination (decoded m b) ≡ None) (λ x. (P × (lowest_to_go b ≡ Some x)) × IsThere elimination (decoded m b))
  item_found p None is = none_left (sym is)
  item_found p (Some x) is = ((p, sym is), (eliminated (decoded m b) x, one_left x (sym is)))

  -- there is an item
  module _ (together : HoldsTogether m at_work b) (x : ℕ) (found : lowest_to_go b ≡ Some x) where
    frame : Framed b
    frame = framed m b together

    count : length (used_row b) ≡ b.counts.items
    count = length-take-le b.counts.items b.row frame.row

    pub place : (1 ≤ x) × (x < 32768) × (x ≤ b.counts.items)
    place = let at = item_place (may_go (used_row b) (used_clauses b)) 1 (nameable (length (used_row b))) x found in (at.0, omega (arith, at.1), omega (arith, at.1, count))

    pub may_eliminate : Eliminable x (used_clauses b)
    unfolding decoded
    may_eliminate = let low = place.1 in eliminable (decoded m b) (holds m b together) x (omega arith)

    -- the words in use are those of clauses and records
    sheet_length : length (encode (used_clauses b)) ≡ b.marks.sheet
    sheet_length = ap length (encode_laid (take b.marks.sheet b.sheet) frame.laid) ∙ length-take-le b.marks.sheet b.sheet frame.sheet.length

    stack_length : length (encode_stack (used_records b)) ≡ b.marks.stack
    stack_length = ap length (stacked_words (take b.marks.stack b.stack) frame.stacked) ∙ length-take-le b.marks.stack b.stack frame.stack.length

    fits_so : fits_in (room_of b) (decoded m b) ≡ step_fits x (words_of b)
    unfolding decoded
    fits_so =
        let new = resolvents x (used_clauses b) in
        let recs = elimination_records x (used_clauses b) in
        ap (elimination_fits (room_of b) (decoded m b)) (searches ∙ found)
        ∙ ap₂ (λ (i j : ℕ). every is_counted new && (leb (i + length (encode new)) (min (length b.sheet) 32768) && leb (j + length (encode_stack recs)) (min (length b.stack) 32768))) sheet_length stack_length

    -- the step was given up
    module _ (w : Words) (sheet_long : length w.sheet ≡ length b.sheet) (stack_long : length w.stack ≡ length b.stack) where
      same_room : (row : List Item) → room_of (with_words b w row) ≡ room_of b
      same_room row = ap₂ (λ (i j : ℕ). record { sheet = min i 32768; stack = min j 32768 }) sheet_long stack_long

      pub given_up : step_fits x (words_of b) ≡ false → GivenUp (words_of b) w → StepAnswered m elimination fits_in b (with_words b w b.row) false
      unfolding decoded
      given_up full left =
          let marks = left.marks in
          let sheet_mark : w.marks.sheet ≡ b.marks.sheet = ap (λ (k : Marks). k.sheet) marks in
          let stack_mark : w.marks.stack ≡ b.marks.stack = ap (λ (k : Marks). k.stack) marks in
          let same_sheet : take w.marks.sheet w.sheet ≡ take b.marks.sheet b.sheet = ap (λ n. take n w.sheet) sheet_mark ∙ left.sheet in
          let same_stack : take w.marks.stack w.stack ≡ take b.marks.stack b.stack = ap (λ n. take n w.stack) stack_mark ∙ left.stack in
          let sheet-fits = frame.sheet in
          let stack-fits = frame.stack in (
            ap₂ (λ (cs : List Clause) (rs : List Record). record { callers = (decoded m b).callers; row = (decoded m b).row; clauses = cs; stack = rs; weights = (decoded m b).weights }) (ap clauses same_sheet) (ap records same_stack),
            fits_so ∙ full,
            record {
              sheet = record { bound = omega (arith, sheet-fits.bound); length = omega (arith, sheet-fits.length) };
              laid = subst (λ ws. Laid ws) (sym same_sheet) frame.laid;
              row = frame.row;
              stack = record { bound = omega (arith, stack-fits.bound); length = omega (arith, stack-fits.length) };
              stacked = subst (λ ws. Stacked ws) (sym same_stack) frame.stacked;
              weights = frame.weights;
            },
            record { counts = refl; room = same_room b.row; behind = refl },
          )

      -- the step was made
      module _ (made : Made x (words_of b) w) where
        abbrev e : Lent W
        e = with_words b w (retired b.row x Fixed)

        becomes : eliminated (decoded m b) x ≡ decoded m e
        unfolding decoded
        becomes =
            let row = sym (row_front (retired b.row x Fixed) b.row (retired (used_row b) x Fixed) b.counts.items (retired_front b.row b.counts.items x (λ _. Fixed) place.0 place.2 frame.row) (length-set (used_row b) _ _ ∙ count)) in
            ap (λ r. record { callers = (decoded m b).callers; row = r; clauses = (eliminated (decoded m b) x).clauses; stack = (eliminated (decoded m b) x).stack; weights = (decoded m b).weights }) row
            ∙ ap₂ (λ (cs : List Clause) (rs : List Record). record { callers = (decoded m b).callers; row = take b.counts.items (retired b.row x Fixed); clauses = cs; stack = rs; weights = (decoded m b).weights }) (sym made.clauses) (sym made.records)

        pub made_so : step_fits x (words_of b) ≡ true → StepAnswered m elimination fits_in b e true
        made_so room =
            let low = place.0 in
            let high = place.2 in
            let inside = frame.row in
            let long = length-set b.row (x - 1) (record { standing = Fixed; ordinal = (item_at b.row x).ordinal }) in (
              one_left x found ∙ ap Some becomes,
              fits_so ∙ room,
              record { sheet = made.sheet; laid = made.laid; row = omega arith; stack = made.stack; stacked = made.stacked; weights = frame.weights },
              record { counts = refl; room = same_room (retired b.row x Fixed); behind = drop-set-lt b.counts.items b.row (x - 1) _ (omega arith) },
            )
