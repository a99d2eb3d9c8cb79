-- On a sheet that holds together the resolvents and the records of an item follow the layout. Assumes nothing.
use Rattle.std.proofs.Common.{◌≡◌, ℕ, ◌<◌, true, ◌||◌, length, sym, refl, subst, arith}
use Rattle.std.proofs.lemmas.Bool.{ltb-true, not_from_false, or_from}
use Rattle.weight.specs.Kind.{Kind}
use Rattle.sheet.specs.Literals.{opposite, has}
use Rattle.sheet.specs.Clauses.{Clause, Valid}
use Rattle.sheet.specs.Records.{Record, ValidRecord}
use Rattle.sheet.specs.Sheets.{Sheet}
use Rattle.meaning.specs.Running.{Holds}
use Rattle.steps.specs.Rewriting.{having}
use Rattle.steps.specs.Elimination.{resolvents, lacks_both, elimination_record, elimination_records, is_counted}
use Rattle.steps.proofs.Members.{In, all_from_in, in_map, not_in_lacks}
use Rattle.steps.proofs.Opposites.{opposite_item}
use Rattle.steps.proofs.Holding.{clause_holds, record_valid}
use Rattle.steps.proofs.Resolvents.{resolvent_apart, resolvent_holds, in_having, in_resolvents}
use Rattle.elimination.specs.Eliminating.{Eliminable}

module _ {V : Type 0} {k : Kind V} (s : Sheet V) (holds : Holds k s) (x : ℕ) (word : x < 65536) where
  valid_in : (r : Clause) → In r (resolvents x s.clauses) → is_counted r ≡ true → Valid r
  valid_in r among counted =
      let by = in_resolvents x s.clauses r among in
      let c_holds = clause_holds holds by.c by.c_in in
      let d-holds = clause_holds holds by.d by.d_in in
      let few = ltb-true (length r.lits) 4096 counted in
      subst Valid by.is (resolvent_holds c_holds d-holds x by.x_in by.denial_in by.does (rw (sym by.is) at few)).valid

  apart_in : (r : Clause) → In r (resolvents x s.clauses) → lacks_both x r ≡ true
  apart_in r among =
      let by = in_resolvents x s.clauses r among in
      let c_holds = clause_holds holds by.c by.c_in in
      let d-holds = clause_holds holds by.d by.d_in in
      let gone = resolvent_apart c_holds d-holds x by.x_in by.denial_in in
      not_from_false (has x r.lits || has (opposite x) r.lits) (or_from (has x r.lits) (has (opposite x) r.lits)
      (not_in_lacks x r.lits (λ there. gone x (rw (sym by.is) at there) refl))
      (not_in_lacks (opposite x) r.lits (λ there. gone (opposite x) (rw (sym by.is) at there) (opposite_item x word))))

  record_in : (r : Record) → In r (elimination_records x s.clauses) → ValidRecord r
  record_in r among =
      let found = in_map (elimination_record x) r (having x s.clauses) among in
      let from = in_having x found.0 s.clauses found.1 in
      subst ValidRecord found.2 (record_valid (clause_holds holds found.0 from.0) 1 x (omega arith, omega arith) from.1)

  pub eliminable : Eliminable x s.clauses
  eliminable = record {
    valid = all_from_in (λ c. is_counted c ≡ true → Valid c) (resolvents x s.clauses) valid_in;
    apart = all_from_in (λ c. lacks_both x c ≡ true) (resolvents x s.clauses) apart_in;
    records = all_from_in ValidRecord (elimination_records x s.clauses) record_in;
  }
