-- Records of the reconstruction stack, and how they lie in words: the literals, the witness, and a trailer (4 bits of code, 12 bits of count). Assumes nothing.
use Rattle.std.specs.Prelude.{◌≡◌, ℕ, zero, suc, ◌+◌, ◌*◌, ◌/◌, ◌%◌, ◌<◌, ◌≤◌, true, List, [], ◌∷◌, ◌++◌, reverse, length, take, drop}
use Rattle.std.specs.List.{AllByRecursion}
use Rattle.sheet.specs.Literals.{Normal, has}

pub record Record : Type 0 where
  pub code : ℕ
  pub lits : List ℕ
  pub witness : ℕ

abbrev pub record_words : Record → List ℕ
record_words r = r.lits ++ (r.witness ∷ (r.code * 4096 + length r.lits) ∷ [])

-- the oldest record first
abbrev pub encode_stack : List Record → List ℕ
encode_stack [] = []
encode_stack (r ∷ rs) = record_words r ++ encode_stack rs

-- Reading goes from the end, over the words turned round: at most n records, the newest first.
abbrev pub newest : ℕ → List ℕ → List Record
newest zero ws = []
newest (suc n) [] = []
newest (suc n) (t ∷ []) = []
newest (suc n) (t ∷ w ∷ ws) = record { code = t / 4096; lits = reverse (take (t % 4096) ws); witness = w } ∷ newest n (drop (t % 4096) ws)

-- the records that words hold, the oldest first
unfoldable pub records : List ℕ → List Record
records ws = reverse (newest (length ws) (reverse ws))

pub record ValidRecord (r : Record) : Type 0 where
  pub code : (1 ≤ r.code) × (r.code < 16)
  pub count : (1 ≤ length r.lits) × (length r.lits < 4096)
  pub normal : Normal r.lits
  pub witness : has r.witness r.lits ≡ true

-- The words are exactly those of records that follow the layout.
unfoldable pub Stacked : List ℕ → Type 0
Stacked ws = (encode_stack (records ws) ≡ ws) × AllByRecursion ValidRecord (records ws)
