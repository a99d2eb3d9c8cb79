-- Blocked clause elimination: where the clause is unmet, its witness can be made true, and no other clause is lost by it. Assumes nothing.
use Rattle.std.proofs.Common.{◌≡◌, ℕ, true, false, not, ◌&&◌, eqb, List, [], ◌∷◌, ◌++◌, refl, ◌∙◌, inl, inr, arith}
use Rattle.std.proofs.lemmas.Bool.{and_parts, or_cases, not-true, eqb-false, cond_both}
use Rattle.weight.specs.Kind.{Kind, Lawful}
use Rattle.sheet.specs.declared.row.Item.{Item}
use Rattle.sheet.specs.Literals.{opposite, has}
use Rattle.sheet.specs.Rows.{item_at}
use Rattle.sheet.specs.Clauses.{Clause}
use Rattle.sheet.specs.Records.{Record}
use Rattle.sheet.specs.Sheets.{Sheet}
use Rattle.meaning.specs.Answers.{Values, met}
use Rattle.meaning.specs.Unwinding.{made_true, mended, reset}
use Rattle.meaning.specs.Running.{Holds}
use Rattle.meaning.proofs.Agreement.{reset_live}
use Rattle.meaning.proofs.Mending.{made_other}
use Rattle.steps.specs.Places.{some, every, first_word}
use Rattle.steps.specs.Rooms.{Room}
use Rattle.steps.specs.Rewriting.{plain_lit, payable_at}
use Rattle.steps.specs.Blocking.{denies_other, blocks, is_blocked, Blocked, blocked_here, first_blocked, block_record, blocked_out, blocking, block_fits}
use Rattle.steps.specs.Keeping.{KeepsMeaning, KeepsPayable}
use Rattle.steps.proofs.Members.{In, of_one, Parts, part_in, others_in, some_in, every_in, has_in, lacks_in}
use Rattle.steps.proofs.Placing.{mapped_at, made_place, word_place}
use Rattle.steps.proofs.Meeting.{MeetsEach, each_with}
use Rattle.steps.proofs.Aging.{aged_same, payable_live, payable_apart}
use Rattle.steps.proofs.Holding.{ClauseHolds, clause_holds, named_in, names_live, record_valid}
use Rattle.steps.proofs.Witnesses.{witness_met, undenied_met, denial_met}
use Rattle.steps.proofs.Exacts.{Exact, IsExact, exact_keeps, exact_payable}

-- d does not deny the witness, or denies another literal of the unmet clause
blocks_met : {row : List Item} {c d : Clause} (v : Values) (w : ℕ) → ClauseHolds row c → ClauseHolds row d → In w c.lits → met v c.lits ≡ false → blocks row c w d ≡ true → met v d.lits ≡ true → met (made_true v w) d.lits ≡ true
blocks_met {row} {c} {d} v w c_holds d-holds among unmet does is = elim (or_cases (not (has (opposite w) d.lits)) (some (denies_other row w d) c.lits) does) [
  | inl lacks ↦ undenied_met c_holds d-holds v w among (lacks_in (opposite w) d.lits (not-true (has (opposite w) d.lits) lacks)) is
  | inr denies ↦
      let found = some_in (denies_other row w d) c.lits denies in
      let x = found.0 in
      let parts = and_parts (not (eqb x w)) (plain_lit row x && has (opposite x) d.lits) found.2 in
      denial_met c_holds d-holds v w among unmet x found.1 (eqb-false x w (not-true (eqb x w) parts.0)) (has_in (opposite x) d.lits (and_parts (plain_lit row x) (has (opposite x) d.lits) parts.1).1)
]

module _ {V : Type 0} (k : Kind V) (s : Sheet V) (before : List Clause) (c : Clause) (rest : List Clause) (parts : Parts before c rest s.clauses) (w : ℕ) (among : In w c.lits) (is : is_blocked s.row s.clauses c w ≡ true) (holds : Holds k s) where
  tests : (plain_lit s.row w ≡ true) × (every (blocks s.row c w) s.clauses ≡ true)
  tests = and_parts (plain_lit s.row w) (every (blocks s.row c w) s.clauses) is

  abbrev place : Blocked
  place = record { witness = w; clause = c; others = before ++ rest }

  c_holds : ClauseHolds s.row c
  c_holds = clause_holds holds c (part_in parts)

  blocked_met : (v : Values) → MeetsEach v (before ++ rest) → MeetsEach (mended (block_record place) v) s.clauses
  blocked_met v others =
      cond_both (met v c.lits) v (made_true v w) (λ u. MeetsEach u s.clauses)
      (λ here. each_with v parts here others)
      (λ unmet. each_with (made_true v w) parts (witness_met v w c.lits among) (λ d other.
      let d_in = others_in parts d other in
      blocks_met v w c_holds (clause_holds holds d d_in) among unmet (every_in (blocks s.row c w) d s.clauses tests.1 d_in) (others d other)))

  -- the witness is no label
  blocked_pays : (v : Values) (i : ℕ) → payable_at s.row i ≡ true → mended (block_record place) (reset s.row v) i ≡ v i
  blocked_pays v i payable =
      let u : Values = reset s.row v in
      let live = reset_live s.row v i (payable_live (item_at s.row i).standing payable) in
      cond_both (met u c.lits) u (made_true u w) (λ x. x i ≡ v i)
      (λ here. live)
      (λ unmet. made_other u w i (payable_apart s.row i _ payable tests.0) ∙ live)

  blocked_exact : Exact s (blocked_out s place) (block_record place ∷ [])
  blocked_exact = record {
    grown = record {
      callers = refl;
      weights = refl;
      aged = aged_same s.row;
      clauses = λ d other. clause_holds holds d (others_in parts d other);
      stack = refl;
      valid = of_one _ (block_record place) (record_valid c_holds 2 w (omega arith) among);
      named = of_one _ (block_record place) (named_in c_holds);
    };
    names = of_one _ (block_record place) (names_live c_holds);
    labels = λ i label. refl;
    on = λ v each d other. each d (others_in parts d other);
    off = λ v others. blocked_met (reset s.row v) others;
    pays = blocked_pays;
  }

blocking_exact : {V : Type 0} (k : Kind V) (room : Room) → IsExact k blocking (λ t. block_fits room t (first_blocked t))
unfolding blocking
blocking_exact k room s t step fits holds = mapped_at (λ u. (news : List Record) × Exact s u news) (blocked_out s) (first_blocked s) t step (λ p found.
    let place = made_place (blocked_here s.row s.clauses) p s.clauses found in
    let c = place.clause in
    mapped_at (λ q. (news : List Record) × Exact s (blocked_out s q) news) (λ w. record { witness = w; clause = c; others = place.before ++ place.rest }) (first_word (is_blocked s.row s.clauses c) c.lits) p place.makes (λ w first.
    let is = word_place (is_blocked s.row s.clauses c) c.lits w first in
    (block_record (record { witness = w; clause = c; others = place.before ++ place.rest }) ∷ [], blocked_exact k s place.before c place.rest (record { is = place.parts }) w is.0 is.1 holds)))

pub blocking_keeps : {V : Type 0} {k : Kind V} → Lawful k → (room : Room) → KeepsMeaning k blocking (λ t. block_fits room t (first_blocked t))
blocking_keeps {k = k} laws room = exact_keeps k blocking (λ t. block_fits room t (first_blocked t)) laws (blocking_exact k room)

pub blocking_pays : {V : Type 0} (k : Kind V) (room : Room) → KeepsPayable k blocking (λ t. block_fits room t (first_blocked t))
blocking_pays k room = exact_payable k blocking (λ t. block_fits room t (first_blocked t)) (blocking_exact k room)
