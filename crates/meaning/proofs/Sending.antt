-- Clauses as they are sent say what they say as they are stored. Assumes nothing.
use Rattle.std.proofs.Common.{◌≡◌, ℕ, suc, ◌<◌, ◌≤◌, Bool, true, ◌||◌, List, [], ◌∷◌, ℤ, pos, negsuc, sym, refl, ◌∙◌, ap₂, arith}
use Rattle.std.specs.List.{AllByRecursion}
use Rattle.std.proofs.ByRecursion.{All-weaker}
use Rattle.sheet.specs.Literals.{Literal}
use Rattle.meaning.specs.Answers.{Values, is_true, met}
use Rattle.meaning.specs.Accepted.{sent_item, sent_true, sent_met}
use Rattle.meaning.specs.Calls.{word_of, normal, tautology}
use Rattle.meaning.proofs.Inserting.{met_insert, all_normal}
use Rattle.meaning.proofs.Truth.{affirmed_true, denied_true, tautology_met}

-- a literal of the items 1 to n
abbrev pub Sent : ℕ → ℤ → Type 0
Sent n z = (1 ≤ sent_item z) × (sent_item z ≤ n)

pub word_true : (v : Values) (z : ℤ) → sent_item z < 32768 → is_true v (word_of z) ≡ sent_true v z
word_true v (pos m) low = affirmed_true v m low
word_true v (negsuc m) low = denied_true v (suc m) low

pub word_literal : (n : ℕ) (z : ℤ) → n < 32768 → Sent n z → Literal n (word_of z)
word_literal n (pos m) low sent = omega arith
word_literal n (negsuc m) low sent = omega arith

module _ (n : ℕ) (low : n < 32768) where
  pub normal_literals : (zs : List ℤ) → AllByRecursion (Sent n) zs → AllByRecursion (Literal n) (normal zs)
  normal_literals zs sent = all_normal (Literal n) zs (All-weaker _ _ (λ z is. word_literal n z low is) zs sent)

  pub normal_met : (v : Values) (zs : List ℤ) → AllByRecursion (Sent n) zs → met v (normal zs) ≡ sent_met v zs
  normal_met v [] sent = refl
  normal_met v (z ∷ zs) sent = met_insert v (word_of z) (normal zs) ∙ ap₂ (λ (x y : Bool). x || y) (word_true v z (omega arith)) (normal_met v zs sent.1)

  pub tautology_sent_met : (v : Values) (zs : List ℤ) → AllByRecursion (Sent n) zs → tautology (normal zs) ≡ true → sent_met v zs ≡ true
  tautology_sent_met v zs sent both = sym (normal_met v zs sent) ∙ tautology_met v (normal zs) (All-weaker _ _ (λ w is. is.word) (normal zs) (normal_literals zs sent)) both
