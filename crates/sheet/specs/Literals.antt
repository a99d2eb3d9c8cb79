-- Literals as 16-bit words: a sign bit, set for a denial, above 15 bits of item number. Assumes nothing.
use Rattle.std.specs.Prelude.{◌≡◌, ℕ, ◌+◌, ◌-◌, ◌%◌, ◌<◌, ◌≤◌, Bool, false, cond, ◌||◌, List, [], ◌∷◌, ◌==◌, nat_le}
use Rattle.std.specs.List.{AllByRecursion}

abbrev pub item_of : ℕ → ℕ
item_of w = w % 32768

abbrev pub denied : ℕ → Bool
denied w = nat_le 32768 w

-- the same item with the other sign
abbrev pub opposite : ℕ → ℕ
opposite w = cond (denied w) (w - 32768) (w + 32768)

-- w is one of the words
abbrev pub has : ℕ → List ℕ → Bool
has w [] = false
has w (x ∷ xs) = x == w || has w xs

-- strictly ascending
abbrev pub Rising : List ℕ → Type 0
Rising [] = Unit {0}
Rising (x ∷ xs) = AllByRecursion (λ y. x < y) xs × Rising xs

-- How the literals of a clause or a record lie: ascending, and never both signs of an item.
pub record Normal (ws : List ℕ) : Type 0 where
  pub rising : Rising ws
  pub one_sign : AllByRecursion (λ w. has (opposite w) ws ≡ false) ws

-- a word that names one of the items 1 to n
pub record Literal (n w : ℕ) : Type 0 where
  pub word : w < 65536
  pub low : 1 ≤ item_of w
  pub high : item_of w ≤ n
