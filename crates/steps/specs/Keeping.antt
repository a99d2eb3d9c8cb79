-- What every step keeps, and what the steps that leave labels alone keep besides. Assumes nothing.
use Rattle.std.specs.Prelude.{◌≡◌, ℕ, Bool, true, Some, Option}
use Rattle.weight.specs.Kind.{Kind}
use Rattle.sheet.specs.Sheets.{Sheet}
use Rattle.meaning.specs.Answers.{Values, Answer, cost, AtMost}
use Rattle.meaning.specs.Running.{Holds, Meaning}
use Rattle.steps.specs.Rewriting.{plain_at, payable_at}

-- every answer of s has one of t that costs no more and agrees with it on the plain items still live
abbrev pub Agrees : {V : Type 0} → Kind V → Sheet V → Sheet V → Type 0
Agrees k s t = (v : Values) → Answer s v → (u : Values) × Answer t u × AtMost k (cost k t u) (cost k s v) × ((i : ℕ) → plain_at t.row i ≡ true → u i ≡ v i)

-- some answer pays exactly these of the live labels
abbrev pub CanPay : {V : Type 0} → Sheet V → Values → Type 0
CanPay s paid = (v : Values) × Answer s v × ((i : ℕ) → payable_at s.row i ≡ true → v i ≡ paid i)

-- the same sets of live labels can be paid
pub record SamePaid {V : Type 0} (s t : Sheet V) : Type 0 where
  pub labels : (i : ℕ) → payable_at t.row i ≡ payable_at s.row i
  pub forth : (paid : Values) → CanPay s paid → CanPay t paid
  pub back : (paid : Values) → CanPay t paid → CanPay s paid

-- A step, made where its words fit.
module _ {V : Type 0} (k : Kind V) (step : Sheet V → Option (Sheet V)) (fits : Sheet V → Bool) where
  abbrev pub KeepsMeaning : Type 0
  KeepsMeaning = (s t : Sheet V) → step s ≡ Some t → fits s ≡ true → Holds k s → Meaning k s t × Agrees k s t

  abbrev pub KeepsPayable : Type 0
  KeepsPayable = (s t : Sheet V) → step s ≡ Some t → fits s ≡ true → Holds k s → SamePaid s t
