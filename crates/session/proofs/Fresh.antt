-- A row made plain, and the sheet that new buffers stand for. Assumes nothing.
use Rattle.std.proofs.Common.{◌≡◌, ℕ, zero, suc, ◌+◌, ◌<◌, List, [], ◌∷◌, ◌++◌, length, take, drop, set, replicate, refl, ap, ◌∙◌, ap₂, arith}
use lib.ListN.{length-replicate}
use Rattle.std.proofs.lemmas.List.{take_at}
use Rattle.weight.specs.declared.kind.Weight.{Ghosts}
use Rattle.sheet.specs.declared.row.Item.{Item}
use Rattle.sheet.specs.Clauses.{Clause, clauses}
use Rattle.sheet.specs.Records.{Record, records}
use Rattle.sheet.specs.Sheets.{decoded}
use Rattle.meaning.specs.Calls.{plain_item, opened}

-- one more place written
pub front_more : {X : Type 0} (xs : List X) (i : ℕ) (y : X) → i < length xs → set (replicate i y ++ drop i xs) i y ≡ replicate (i + 1) y ++ drop (i + 1) xs
front_more [] i y h = absurd (omega arith)
front_more (x ∷ xs) zero y h = refl
front_more (x ∷ xs) (suc i) y h =
    let e : suc i + 1 ≡ suc (i + 1) = omega arith in
    rw e (ap (λ rest. y ∷ rest) (front_more xs i y (omega arith)))

no_clauses : clauses [] ≡ []
unfolding clauses
no_clauses = refl

no_records : records [] ≡ []
unfolding records
no_records = refl

-- with nothing in use, and a row that begins with n plain items
pub decoded_new : {W : Type 0} (m : Ghosts W) (n : ℕ) (sheet stack : List ℕ) (weights : List W) (row : List Item)
    → decoded m (record { sheet = sheet; row = replicate n plain_item ++ row; stack = stack; weights = weights; marks = record { sheet = 0; stack = 0 }; counts = record { callers = n; items = n; softs = 0 } }) ≡ opened n
unfolding decoded
decoded_new m n sheet stack weights row =
    let front = take_at (replicate n plain_item) row n (length-replicate n plain_item) in
    ap₂ (λ (cs : List Clause) (rs : List Record). record { callers = n; row = take n (replicate n plain_item ++ row); clauses = cs; stack = rs; weights = [] }) no_clauses no_records
    ∙ ap (λ r. record { callers = n; row = r; clauses = []; stack = []; weights = [] }) front
