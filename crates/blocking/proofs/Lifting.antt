-- The step on a sheet, by the first place in the words of its clauses, and what a step leaves. Assumes nothing.
use Rattle.std.proofs.Common.{◌≡◌, ℕ, ◌+◌, ◌-◌, ◌<◌, ◌≤◌, min, Bool, true, leb, List, [], ◌∷◌, ◌++◌, length, get_or, take, Some, None, Option, MatchOption, sym, refl, ap, ◌∙◌, ap₂, arith}
use Rattle.std.specs.Option.{option_map}
use Rattle.std.specs.List.{between}
use Rattle.std.proofs.lemmas.List.Edits.{get_or-between, length-between}
use Rattle.std.proofs.lemmas.List.{length-append, length-take-le}
use Rattle.std.proofs.lemmas.Bool.{leb-true}
use Rattle.weight.specs.declared.kind.Weight.{Ghosts}
use Rattle.sheet.specs.Clauses.{Laid, clauses}
use Rattle.sheet.specs.ClauseSteps.{placed}
use Rattle.sheet.specs.Records.{ValidRecord, record_words, encode_stack, records}
use Rattle.sheet.specs.Together.{HoldsTogether}
use Rattle.sheet.specs.declared.buffers.Marks.{Marks}
use Rattle.sheet.specs.declared.buffers.Phase.TheVariants.{Working as at_work}
use Rattle.sheet.specs.Sheets.{Sheet, Lent, decoded, used_clauses, used_row}
use Rattle.sheet.proofs.Signs.{has_place}
use Rattle.sheet.proofs.Stacking.{stacked_words, stacked_pushed, records_pushed}
use Rattle.steps.specs.Blocking.{Blocked, first_blocked, blocked_out, blocking, block_fits}
use Rattle.steps.specs.Rooms.{Room, room_of}
use Rattle.rules.proofs.Holding.{Framed, framed}
use Rattle.rules.specs.Stepping.{IsThere, StepAnswered}
use Rattle.places.specs.declared.Found.{Found}
use Rattle.places.specs.Spots.{FoundIn, Spot, first_spot, SpotAt}
use Rattle.places.proofs.Making.{first_made_lem}
use Rattle.blocking.specs.Blocks.{blocks_in, all_block, blocked_in, record_at}

module _ {V : Type 0} (s : Sheet V) where
  abbrev pub out : Spot → Blocked
  out p = record { witness = p.word; clause = p.clause; others = p.before ++ p.rest }

  pub blocked_first : (o : Option Spot) → first_spot (blocked_in s.row s.clauses) s.clauses ≡ o → first_blocked s ≡ option_map out o
  unfolding blocks_in all_block
  blocked_first o first = first_made_lem (blocked_in s.row s.clauses) out s.clauses ∙ ap (option_map out) first

  pub step_first : (o : Option Blocked) → first_blocked s ≡ o → blocking s ≡ option_map (blocked_out s) o
  unfolding blocking
  step_first o first = ap (option_map (blocked_out s)) first

abbrev pub fits_in : {V : Type 0} → Room → Sheet V → Bool
fits_in room t = block_fits room t (first_blocked t)

module _ {W : Type 0} (m : Ghosts W) (b : Lent W) where
  abbrev test : List ℕ → ℕ → Bool
  test = blocked_in (used_row b) (used_clauses b)

  none_left : first_spot test (used_clauses b) ≡ None → blocking (decoded m b) ≡ None
  unfolding decoded
  none_left none = step_first (decoded m b) None (blocked_first (decoded m b) None none)

  module _ (p : Found) (found : SpotAt test b.sheet b.marks.sheet p) where
    abbrev place : Blocked
    place = record {
      witness = get_or b.sheet p.literal 0;
      clause = placed b.sheet p.place;
      others = clauses (take p.at b.sheet) ++ clauses (between p.place.end b.marks.sheet b.sheet);
    }

    first : first_blocked (decoded m b) ≡ Some place
    unfolding decoded
    first = blocked_first (decoded m b) _ found.first

    one_left : blocking (decoded m b) ≡ Some (blocked_out (decoded m b) place)
    one_left = step_first (decoded m b) (Some place) first

  -- what the search answers
  pub blocked_found : (o : Option Found) → FoundIn blocked_in b o → MatchOption o (blocking (decoded m b) ≡ None) (λ p. SpotAt test b.sheet b.marks.sheet p × IsThere blocking (decoded m b))
  blocked_found None none = none_left none
  blocked_found (Some p) found = (found, (blocked_out (decoded m b) (place p found), one_left p found))

  module _ (together : HoldsTogether m at_work b) (p : Found) (found : SpotAt test b.sheet b.marks.sheet p) where
    frame : Framed b
    frame = framed m b together

    count : length (between p.place.from p.place.to b.sheet) ≡ p.place.to - p.place.from
    count = length-between b.sheet p.place.from p.place.to (omega (arith, found.step.inside, found.step.fits, frame.sheet.length))

    pub short : p.place.to < p.place.from + 4096
    short = omega (arith, found.step.valid.count, count, found.step.order)

    -- the words of its record
    needed : length (encode_stack (records (take b.marks.stack b.stack))) + length (encode_stack (record_at b.sheet p ∷ [])) ≡ b.marks.stack + (p.place.to - p.place.from) + 2
    needed =
        let used = ap length (stacked_words (take b.marks.stack b.stack) frame.stacked) ∙ length-take-le b.marks.stack b.stack frame.stack.length in
        let long : length (encode_stack (record_at b.sheet p ∷ [])) ≡ length (between p.place.from p.place.to b.sheet) + 2 = simp length-append (omega arith) in
        omega (arith, used, long, count)

    pub fits_so : fits_in (room_of b) (decoded m b) ≡ leb (b.marks.stack + (p.place.to - p.place.from) + 2) (min (length b.stack) 32768)
    unfolding decoded
    fits_so = ap (block_fits (room_of b) (decoded m b)) (first p found) ∙ ap (λ n. leb n (min (length b.stack) 32768)) needed

    module _ (room : leb (b.marks.stack + (p.place.to - p.place.from) + 2) (min (length b.stack) 32768) ≡ true) where
      valid : ValidRecord (record_at b.sheet p)
      valid =
          let gap : p.place.from + (p.literal - p.place.from) ≡ p.literal = omega (arith, found.low) in
          record {
            code = (omega arith, omega arith);
            count = (omega (arith, count, found.low, found.high), found.step.valid.count);
            normal = found.step.valid.normal;
            witness =
                has_place _ _ (p.literal - p.place.from) (omega (arith, count, found.low, found.high))
                (get_or-between b.sheet p.place.from p.place.to (p.literal - p.place.from) 0 (omega (arith, found.low, found.high)) ∙ ap (λ n. get_or b.sheet n 0) gap);
          }

      -- the clause was recorded and removed
      pub taken_out : (sheet stack : List ℕ) (marks : Marks) → length sheet ≡ length b.sheet → marks.sheet ≤ b.marks.sheet → Laid (take marks.sheet sheet) → clauses (take marks.sheet sheet) ≡ (place p found).others
          → length stack ≡ length b.stack → marks.stack ≡ b.marks.stack + (p.place.to - p.place.from) + 2 → take marks.stack stack ≡ take b.marks.stack b.stack ++ record_words (record_at b.sheet p)
          → StepAnswered m blocking fits_in b (record { sheet = sheet; row = b.row; stack = stack; weights = b.weights; marks = marks; counts = b.counts }) true
      unfolding decoded
      taken_out sheet stack marks sheet_long shrinks laid removed stack_long end pushed =
          let ends = leb-true _ _ room in (
            one_left p found ∙ ap₂ (λ cs rs. Some (record { callers = (decoded m b).callers; row = (decoded m b).row; clauses = cs; stack = rs; weights = (decoded m b).weights })) (sym removed)
                (sym (records_pushed (take b.marks.stack b.stack) (record_at b.sheet p) (take marks.stack stack) pushed valid)),
            fits_so ∙ room,
            record {
              sheet = record { bound = omega (arith, frame.sheet.bound); length = omega (arith, frame.sheet.length) };
              laid = laid;
              row = frame.row;
              stack = record { bound = omega arith; length = omega arith };
              stacked = stacked_pushed (take b.marks.stack b.stack) (record_at b.sheet p) (take marks.stack stack) pushed valid frame.stacked;
              weights = frame.weights;
            },
            record { counts = refl; room = ap₂ (λ n k. record { sheet = min n 32768; stack = min k 32768 }) sheet_long stack_long; behind = refl },
          )
