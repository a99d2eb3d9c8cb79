-- Adding a clause: when it refuses, in the order of the causes, and what it stores. Assumes nothing.
use Rattle.std.specs.Prelude.{◌≡◌, ℕ, ◌+◌, cond, ◌&&◌, ◌||◌, List, [], ◌∷◌, ◌++◌, length, take, ℤ, Some, None, Ok, Err, Option, Result, nat_le, slice_set}
use Rattle.std.specs.Option.{option_map}
use Rattle.weight.specs.declared.kind.Weight.{Ghosts}
use Rattle.weight.specs.Total.{total_in}
use Rattle.sheet.specs.declared.buffers.Phase.TheVariants.{Gathering}
use Rattle.sheet.specs.declared.clause.Tag.TheVariants.{Hard as hard, Soft as soft}
use Rattle.sheet.specs.declared.refusal.Refusal.{Refusal}
use Rattle.sheet.specs.declared.refusal.Refusal.TheVariants.{BadLiteral, TooManySofts, TotalTooLarge, WordsDoNotFit}
use Rattle.sheet.specs.Clauses.{Clause, clause_words, Laid}
use Rattle.sheet.specs.Sheets.{Lent, decoded}
use Rattle.sheet.specs.Together.{HoldsTogether}
use Rattle.meaning.specs.Accepted.{Accepted, must, wish}
use Rattle.meaning.specs.Calls.{normal, tautology, after_add, gathering, Reached}
use Rattle.meaning.specs.LeastCosts.{Faithful}
use Rattle.sending.specs.Sending.{bad_place}
use Rattle.session.specs.Refusing.{or_else, Refuses}
use Rattle.session.specs.declared.claim.Claim.{Claim}
use Rattle.session.specs.declared.claim.Claim.TheVariants.{Hard, Soft}

-- the clause as the accepted list tells it
abbrev pub accepted : {W : Type 0} (m : Ghosts W) → List ℤ → Claim W → Accepted m.Value
accepted m zs Hard = must zs
accepted m zs (Soft w) = wish zs (m.value w)

-- a soft finds no place for its weight, or the total with it passes the ceiling
abbrev pub soft_cause : {W : Type 0} (m : Ghosts W) → ℕ → List W → Claim W → Option Refusal
soft_cause m softs weights Hard = None
soft_cause m softs weights (Soft w) =
    cond (nat_le 2000 softs || nat_le (length weights) softs) (Some (TooManySofts softs))
    (cond (m.kind.within (m.kind.sum (total_in m (take softs weights)) (m.value w))) None (Some (TotalTooLarge softs)))

-- the clause as it is stored
abbrev pub stored_clause : {W : Type 0} → Lent W → List ℤ → Claim W → Clause
stored_clause b zs Hard = record { tag = hard; lits = normal zs }
stored_clause b zs (Soft w) = record { tag = soft b.counts.softs; lits = normal zs }

abbrev pub words_cause : ℕ → ℕ → ℕ → Option Refusal
words_cause fill room words = cond (nat_le (fill + words) 32768 && nat_le (fill + words) room) None (Some (WordsDoNotFit words))

-- why an add refuses where the buffers hold together: a tautology is stored nowhere, so only its literals are looked at
abbrev pub add_cause : {W : Type 0} (m : Ghosts W) → Lent W → List ℤ → Claim W → Option Refusal
add_cause m b zs claim =
    or_else (option_map BadLiteral (bad_place b.counts.callers zs))
    (cond (tautology (normal zs)) None
    (or_else (soft_cause m b.counts.softs b.weights claim) (words_cause b.marks.sheet (length b.sheet) (length (clause_words (stored_clause b zs claim))))))

-- the words that are written, and the weights then
abbrev pub written_words : {W : Type 0} → Lent W → List ℤ → Claim W → List ℕ
written_words b zs claim = cond (tautology (normal zs)) [] (clause_words (stored_clause b zs claim))

abbrev pub written_weights : {W : Type 0} → Lent W → Claim W → List W
written_weights b Hard = b.weights
written_weights b (Soft w) = slice_set b.weights b.counts.softs w

-- how many weights are written
abbrev pub written_softs : {W : Type 0} → Claim W → ℕ
written_softs Hard = 0
written_softs (Soft w) = 1

-- An add that passes, from the buffers b to the buffers c.
pub record Taken {W : Type 0} (m : Ghosts W) (zs : List ℤ) (claim : Claim W) (b c : Lent W) : Type 0 where
  pub together : HoldsTogether m Gathering b
  pub passes : add_cause m b zs claim ≡ None
  pub after : decoded m c ≡ after_add (decoded m b) (accepted m zs claim)
  pub words : take c.marks.sheet c.sheet ≡ take b.marks.sheet b.sheet ++ written_words b zs claim
  pub laid : Laid (take c.marks.sheet c.sheet)
  pub weights : c.weights ≡ cond (tautology (normal zs)) b.weights (written_weights b claim)
  pub marks : c.marks ≡ record { sheet = b.marks.sheet + length (written_words b zs claim); stack = b.marks.stack }
  pub counts : c.counts ≡ record { callers = b.counts.callers; items = b.counts.items; softs = b.counts.softs + cond (tautology (normal zs)) 0 (written_softs claim) }

abbrev pub AddAnswered : {W : Type 0} (m : Ghosts W) → List ℤ → Claim W → Lent W → Lent W → Result Unit Refusal → Type 0
AddAnswered m zs claim b c (Ok done) = Taken m zs claim b c
AddAnswered m zs claim b c (Err e) = Refuses m Gathering b (add_cause m b zs claim) e × (c ≡ b)

-- the accepted list after it
abbrev pub accepted_by : {V E : Type 0} → List (Accepted V) → Accepted V → Result Unit E → List (Accepted V)
accepted_by acc a (Ok done) = acc ++ (a ∷ [])
accepted_by acc a (Err e) = acc

-- From a sheet that calls reached, an add reaches one again, with what it then has accepted, and that is faithful.
abbrev pub AddFaithful : {W E : Type 0} (m : Ghosts W) → List ℤ → Claim W → Lent W → Lent W → Result Unit E → Type 0
AddFaithful m zs claim b c r = (acc : List (Accepted m.Value)) → Reached m.kind gathering acc (decoded m b)
    → Reached m.kind gathering (accepted_by acc (accepted m zs claim) r) (decoded m c) × Faithful m.kind (accepted_by acc (accepted m zs claim) r) (decoded m c)

-- A clause written behind the words up to `fill`, or refused with nothing written.
abbrev pub Stored : ℕ → Clause → List ℕ → List ℕ → Result ℕ Refusal → Type 0
Stored fill c before after (Ok end) = (words_cause fill (length before) (length (clause_words c)) ≡ None) × (end ≡ fill + length (clause_words c)) × (take end after ≡ take fill before ++ clause_words c)
Stored fill c before after (Err e) = (words_cause fill (length before) (length (clause_words c)) ≡ Some e) × (after ≡ before)
