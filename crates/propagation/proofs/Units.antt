-- One step of unit propagation on the buffers is one on the sheet that they stand for. Assumes nothing.
use Rattle.std.proofs.Common.{◌≡◌, ℕ, ◌+◌, ◌≤◌, min, Bool, true, leb, List, [], ◌∷◌, ◌++◌, length, take, drop, Some, None, sym, refl, ap, ◌∙◌, subst, ap₂, inl, arith, Option, MatchOption}
use Rattle.std.specs.Option.{option_map, option_or}
use Rattle.std.proofs.lemmas.List.{length-set, length-take-le}
use Rattle.std.proofs.lemmas.Bool.{leb-true}
use Rattle.weight.specs.declared.kind.Weight.{Ghosts}
use Rattle.sheet.specs.declared.buffers.Marks.{Marks}
use Rattle.sheet.specs.declared.buffers.Phase.TheVariants.{Working as at_work}
use Rattle.sheet.specs.declared.row.Item.{Item}
use Rattle.sheet.specs.Clauses.{Clause, Laid, clauses}
use Rattle.sheet.specs.Literals.{Literal, item_of}
use Rattle.sheet.specs.Records.{Record, ValidRecord, encode_stack, record_words}
use Rattle.sheet.specs.Rows.{item_at}
use Rattle.sheet.specs.Sheets.{Sheet, Lent, decoded, used_clauses, used_row, used_records}
use Rattle.sheet.specs.Together.{HoldsTogether}
use Rattle.sheet.proofs.Stacking.{stacked_pushed, records_pushed, stacked_words}
use Rattle.steps.specs.Places.{first_made}
use Rattle.steps.specs.Propagation.{unit_here, unit_of, first_unit, made_unit, propagated, propagation, settled_as, unit_fits, unit_record}
use Rattle.steps.specs.Rewriting.{retired}
use Rattle.steps.specs.Rooms.{Room, room_of}
use Rattle.steps.proofs.Holding.{ClauseHolds, clause_holds, record_valid}
use Rattle.steps.proofs.Members.{In, all_in}
use Rattle.steps.proofs.Propagated.{unit_place}
use Rattle.rules.proofs.Holding.{Framed, framed, holds}
use Rattle.rewriting.proofs.Rows.{row_front, row_behind_lem, row_reaches}
use Rattle.rules.specs.Stepping.{Follows, IsThere}

-- what stands before is not looked at
pub unit_rest : (before cs : List Clause) → first_made unit_here before cs ≡ first_made unit_here [] cs
unit_rest before [] = refl
unit_rest before (c ∷ cs) = ap (option_or (unit_of c.lits)) (unit_rest (before ++ c ∷ []) cs ∙ sym (unit_rest (c ∷ []) cs))

-- what is seen in the lent buffers is what lies on the desk
pub seen_unit : {W : Type 0} {b c : Lent W} {cs : List Clause} {o : Option ℕ} → o ≡ first_unit cs → cs ≡ used_clauses b → b ≡ c → o ≡ first_unit (used_clauses c)
seen_unit found seen same = found ∙ ap first_unit (seen ∙ ap used_clauses same)

-- the words of its record fit
abbrev pub record_fits : {V : Type 0} → Room → Sheet V → Bool
record_fits room s = unit_fits room s (first_unit s.clauses)

module _ {W : Type 0} (m : Ghosts W) (b : Lent W) where
  pub none_left : first_unit (used_clauses b) ≡ None → propagation (decoded m b) ≡ None
  unfolding propagation decoded
  none_left none = ap (option_map (made_unit (decoded m b))) none

  pub one_left : (w : ℕ) → first_unit (used_clauses b) ≡ Some w → propagation (decoded m b) ≡ Some (made_unit (decoded m b) w)
  unfolding propagation decoded
  one_left w found = ap (option_map (made_unit (decoded m b))) found

  -- what the search answers
  pub unit_found : (o : Option ℕ) → o ≡ first_unit (used_clauses b) → MatchOption o (propagation (decoded m b) ≡ None) (λ w. (first_unit (used_clauses b) ≡ Some w) × IsThere propagation (decoded m b))
  unit_found None is = none_left (sym is)
  unit_found (Some w) is = (sym is, (made_unit (decoded m b) w, one_left w (sym is)))

  module _ (together : HoldsTogether m at_work b) (w : ℕ) (found : first_unit (used_clauses b) ≡ Some w) where
    abbrev s : Sheet m.Value
    s = decoded m b

    pub unit_fits_lem : record_fits (room_of b) (decoded m b) ≡ leb (b.marks.stack + 3) (min (length b.stack) 32768)
    unfolding decoded
    unit_fits_lem =
        let frame = framed m b together in
        let words : length (encode_stack (used_records b)) ≡ b.marks.stack = ap length (stacked_words _ frame.stacked) ∙ length-take-le b.marks.stack b.stack frame.stack.length in
        ap (unit_fits (room_of b) s) found ∙ ap (λ n. leb (n + 3) (min (length b.stack) 32768)) words

    -- the clause of the unit
    record UnitClause : Type 0 where
      pub clause : Clause
      pub stands : ClauseHolds (used_row b) clause
      pub lits : clause.lits ≡ w ∷ []

    unit : UnitClause
    unfolding decoded
    unit =
        let place = unit_place (used_clauses b) w found in
        record { clause = place.0; stands = clause_holds (holds m b together) place.0 place.1; lits = place.2 }

    in_unit : In w unit.clause.lits
    in_unit = rw unit.lits (inl refl)

    pub unit_valid : ValidRecord (unit_record w)
    unit_valid = subst (λ ws. ValidRecord (record { code = 3; lits = ws; witness = w })) unit.lits (record_valid unit.stands 3 w (omega arith, omega arith) in_unit)

    pub unit_named : Literal b.counts.items w
    unit_named = subst (λ n. Literal n w) (length-take-le b.counts.items b.row together.row.fits) (all_in _ w unit.clause.lits unit.stands.stands in_unit).literal

    -- the row in use once the item is settled
    abbrev settled_row : List Item
    settled_row = retired (used_row b) (item_of w) (settled_as (item_at (used_row b) (item_of w)).standing)

    -- the buffers once the step is made
    module _ (sheet stack : List ℕ) (row : List Item) (marks : Marks) (long : length sheet ≡ length b.sheet) (high : length stack ≡ length b.stack)
        (shrinks : marks.sheet ≤ b.marks.sheet) (laid : Laid (take marks.sheet sheet)) (rewritten : clauses (take marks.sheet sheet) ≡ propagated w (used_clauses b))
        (end : marks.stack ≡ b.marks.stack + 3) (pushed : take marks.stack stack ≡ take b.marks.stack b.stack ++ record_words (unit_record w))
        (settled : row ≡ settled_row ++ drop b.counts.items b.row) where
      abbrev after : Lent W
      after = record { sheet = sheet; row = row; stack = stack; weights = b.weights; marks = marks; counts = b.counts }

      frame : Framed b
      frame = framed m b together

      count : length settled_row ≡ b.counts.items
      count = length-set (used_row b) _ _ ∙ length-take-le b.counts.items b.row frame.row

      pub unit_made : propagation (decoded m b) ≡ Some (decoded m after)
      unfolding decoded
      unit_made =
          one_left w found
          ∙ ap₂ (λ (items : List Item) (cs : List Clause). Some (record { callers = s.callers; row = items; clauses = cs; stack = s.stack ++ unit_record w ∷ []; weights = s.weights })) (sym (row_front row b.row settled_row b.counts.items settled count)) (sym rewritten)
          ∙ ap (λ (rs : List Record). Some (record { callers = s.callers; row = take b.counts.items row; clauses = clauses (take marks.sheet sheet); stack = rs; weights = s.weights }))
          (sym (records_pushed (take b.marks.stack b.stack) (unit_record w) (take marks.stack stack) pushed unit_valid))

      pub unit_framed : leb (b.marks.stack + 3) (min (length b.stack) 32768) ≡ true → Framed after
      unit_framed fits =
          let bound = frame.sheet.bound in
          let inside = frame.sheet.length in
          let room : b.marks.stack + 3 ≤ min (length b.stack) 32768 = leb-true _ _ fits in
          record {
            sheet = record { bound = omega arith; length = omega arith };
            laid = laid;
            row = row_reaches row b.row settled_row b.counts.items settled count;
            stack = record { bound = omega arith; length = omega arith };
            stacked = stacked_pushed (take b.marks.stack b.stack) (unit_record w) (take marks.stack stack) pushed unit_valid frame.stacked;
            weights = frame.weights;
          }

      pub unit_follows : Follows b after
      unit_follows = record {
        counts = refl;
        room = ap₂ (λ (n k : ℕ). record { sheet = min n 32768; stack = min k 32768 }) long high;
        behind = row_behind_lem row b.row settled_row b.counts.items settled count;
      }
