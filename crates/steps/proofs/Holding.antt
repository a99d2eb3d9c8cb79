-- What keeps a sheet together: clauses that hold, parts of them, and records of them. Assumes nothing.
use Rattle.std.proofs.Common.{◌≡◌, ℕ, ◌<◌, ◌≤◌, Bool, true, not, List, [], ◌∷◌, ◌++◌, length, filter, refl, arith}
use Rattle.std.specs.List.{AllByRecursion}
use Rattle.std.proofs.ByRecursion.{All-append, all_kept_by}
use Rattle.std.proofs.lemmas.List.Filters.{length-filter_both}
use Rattle.std.proofs.lemmas.Bool.{cond_both}
use Rattle.weight.specs.Kind.{Kind}
use Rattle.sheet.specs.declared.buffers.Phase.TheVariants.{Working as at_work}
use Rattle.sheet.specs.declared.clause.Tag.TheVariants.{Working}
use Rattle.sheet.specs.declared.row.Item.{Item}
use Rattle.sheet.specs.declared.row.Standing.{Standing}
use Rattle.sheet.specs.Literals.{Literal, Rising, item_of, opposite}
use Rattle.sheet.specs.Rows.{is_label, item_at, live_at}
use Rattle.sheet.specs.Clauses.{Clause, Valid}
use Rattle.sheet.specs.Records.{Record, ValidRecord}
use Rattle.sheet.specs.Sheets.{Sheet}
use Rattle.sheet.specs.Together.{Stands}
use Rattle.meaning.specs.Running.{Holds}
use Rattle.steps.specs.Rewriting.{retired, with_lits}
use Rattle.steps.proofs.Members.{In, all_in, all_from_in, in_has, in_kept, lacks_in, not_in_lacks}
use Rattle.steps.proofs.Aging.{Aged, aged_ranged, aged_apart, aged_retired, retired_other}

-- what a sheet of this row that holds together asks of a clause
pub record ClauseHolds (row : List Item) (c : Clause) : Type 0 where
  pub working : c.tag ≡ Working
  pub valid : Valid c
  pub stands : AllByRecursion (Stands at_work (length row) row) c.lits

-- Clauses of a sheet that holds together.

pub clause_holds : {V : Type 0} {k : Kind V} {s : Sheet V} → Holds k s → (c : Clause) → In c s.clauses → ClauseHolds s.row c
clause_holds {s = s} holds c among = record {
  working = all_in _ c s.clauses holds.kinds among;
  valid = all_in _ c s.clauses holds.valid among;
  stands = all_in _ c s.clauses holds.literals among;
}

module _ {row : List Item} {c : Clause} (holds : ClauseHolds row c) where
  pub literal_in : (w : ℕ) → In w c.lits → Literal (length row) w
  literal_in w among = (all_in _ w c.lits holds.stands among).literal

  pub word_in : (w : ℕ) → In w c.lits → w < 65536
  word_in w among = (literal_in w among).word

  pub live_in : (w : ℕ) → In w c.lits → live_at row (item_of w) ≡ true
  live_in w among = let stands = all_in _ w c.lits holds.stands among in stands.live stands.literal.high

  pub names_live : AllByRecursion (λ w. live_at row (item_of w) ≡ true) c.lits
  names_live = all_from_in _ c.lits live_in

  pub named_in : AllByRecursion (Literal (length row)) c.lits
  named_in = all_from_in _ c.lits literal_in

  pub one_sign_in : (w : ℕ) → In w c.lits → In (opposite w) c.lits → ⊥
  one_sign_in w among both = lacks_in (opposite w) c.lits (all_in _ w c.lits holds.valid.normal.one_sign among) both

  -- the clause as a record, mended by one of its literals
  pub record_valid : (code w : ℕ) → (1 ≤ code) × (code < 16) → In w c.lits → ValidRecord (record { code = code; lits = c.lits; witness = w })
  record_valid code w known among = record {
    code = known;
    count = (some_length w c.lits among, holds.valid.count);
    normal = holds.valid.normal;
    witness = in_has w c.lits among;
  }
    where
      some_length : (w : ℕ) (ws : List ℕ) → In w ws → 1 ≤ length ws
      some_length w [] among = absurd among
      some_length w (x ∷ ws) among = omega arith

-- Parts of clauses.

pub kept_rising : (test : ℕ → Bool) (ws : List ℕ) → Rising ws → Rising (filter test ws)
kept_rising test [] rising = tt
kept_rising test (w ∷ ws) rising =
    let rest = kept_rising test ws rising.1 in
    cond_both (test w) (w ∷ filter test ws) (filter test ws) Rising (λ passes. (all_kept_by test _ ws rising.0, rest)) (λ fails. rest)

pub kept_length : (test : ℕ → Bool) (ws : List ℕ) → length (filter test ws) ≤ length ws
kept_length test ws = omega (arith, length-filter_both test (λ w. not (test w)) (λ w. refl) ws)

pub kept_valid : (test : ℕ → Bool) (c : Clause) → Valid c → Valid (with_lits c (filter test c.lits))
kept_valid test c valid = record {
  count = let few = kept_length test c.lits in let many = valid.count in omega arith;
  normal = record {
    rising = kept_rising test c.lits valid.normal.rising;
    one_sign = all_from_in _ (filter test c.lits) (λ w among. not_in_lacks (opposite w) (filter test c.lits) (λ both.
        lacks_in (opposite w) c.lits (all_in _ w c.lits valid.normal.one_sign (in_kept test w c.lits among).0) (in_kept test (opposite w) c.lits both).0));
  };
}

pub kept_holds : (row : List Item) (test : ℕ → Bool) (c : Clause) → ClauseHolds row c → ClauseHolds row (with_lits c (filter test c.lits))
kept_holds row test c holds = record {
  working = holds.working;
  valid = kept_valid test c holds.valid;
  stands = all_kept_by test _ c.lits holds.stands;
}

-- A clause without the item that retires.

pub retired_holds : (row : List Item) (i : ℕ) (standing : Standing) (c : Clause) → live_at row i ≡ true → is_label standing ≡ is_label (item_at row i).standing → ((w : ℕ) → In w c.lits → item_of w ≡ i → ⊥) → ClauseHolds row c → ClauseHolds (retired row i standing) c
retired_holds row i standing c live label apart holds = record {
  working = holds.working;
  valid = holds.valid;
  stands = all_from_in _ c.lits (λ w among.
      let same = retired_other row i standing live (item_of w) (apart w among) in
      let long = (aged_retired row i standing live label).items in
      let stands = all_in _ w c.lits holds.stands among in
      record {
        literal = rw long stands.literal;
        live = λ inside. rw same (stands.live stands.literal.high);
        undenied = λ inside denied. rw same (stands.undenied stands.literal.high denied);
      });
}

-- A sheet whose row aged, with clauses that hold and new records.

pub record Grown {V : Type 0} (s t : Sheet V) (news : List Record) : Type 0 where
  pub callers : t.callers ≡ s.callers
  pub weights : t.weights ≡ s.weights
  pub aged : Aged s.row t.row
  pub clauses : (c : Clause) → In c t.clauses → ClauseHolds t.row c
  pub stack : t.stack ≡ s.stack ++ news
  pub valid : (r : Record) → In r news → ValidRecord r
  pub named : (r : Record) → In r news → AllByRecursion (Literal (length s.row)) r.lits

pub grown_holds : {V : Type 0} {k : Kind V} {s t : Sheet V} {news : List Record} → Holds k s → Grown s t news → Holds k t
grown_holds {s = s} {t = t} {news = news} holds grown = record {
  kinds = all_from_in _ t.clauses (λ c among. (grown.clauses c among).working);
  valid = all_from_in _ t.clauses (λ c among. (grown.clauses c among).valid);
  literals = all_from_in _ t.clauses (λ c among. (grown.clauses c among).stands);
  ranged = rw grown.weights (aged_ranged grown.aged (length s.weights) holds.ranged);
  apart = aged_apart grown.aged holds.apart;
  records = rw grown.stack (All-append _ s.stack news holds.records (all_from_in _ news grown.valid));
  named = rw (grown.stack, grown.aged.items) (All-append _ s.stack news holds.named (all_from_in _ news grown.named));
  ceiling = rw grown.weights holds.ceiling;
}
