-- Unwinding, on a sheet with records written by hand. Assumes nothing.
use Rattle.std.specs.Prelude.{ℕ, [], ◌∷◌}
use Rattle.sheet.specs.declared.row.Standing.TheVariants.{Fixed, Forced}
use Rattle.sheet.specs.Sheets.{Sheet}
use Rattle.meaning.specs.Calls.{label_item}
use Rattle.examples.specs.Showing.{Example, values_of, unwinding}

-- A forced label of weight 4, a live one of weight 6, and a fixed item. The older record is {1, not 3} with 1 as witness, the newer {2, 3} with 3.
abbrev pub two_records : Sheet ℕ
two_records = record {
  callers = 3;
  row = record { standing = Forced; ordinal = 0 } ∷ label_item 1 ∷ record { standing = Fixed; ordinal = 0 } ∷ [];
  clauses = [];
  stack = record { code = 2; lits = 1 ∷ 32771 ∷ []; witness = 1 } ∷ record { code = 1; lits = 2 ∷ 3 ∷ []; witness = 3 } ∷ [];
  weights = 4 ∷ 6 ∷ [];
}

-- the newer record makes 3 yes, and so the older one 1
abbrev pub newer_record_sets_off_the_older : Example
newer_record_sets_off_the_older = record {
  computed = unwinding two_records (values_of (0 ∷ 0 ∷ 0 ∷ []));
  expected = 0 ∷ 0 ∷ 0 ∷ 1 ∷ 0 ∷ 1 ∷ 4 ∷ 4 ∷ [];
}

-- Items 1 and 3 are reset, and with 2 yes both records are met: the answer is charged the forced label, which the plan does not pay.
abbrev pub plan_pays_less_than_the_answer : Example
plan_pays_less_than_the_answer = record {
  computed = unwinding two_records (values_of (1 ∷ 1 ∷ 1 ∷ []));
  expected = 1 ∷ 1 ∷ 1 ∷ 0 ∷ 1 ∷ 0 ∷ 10 ∷ 6 ∷ [];
}
