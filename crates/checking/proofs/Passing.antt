-- What `all` answers where each call decides of its item. Assumes nothing.
use Rattle.std.proofs.Common.{◌≡◌, ℕ, ◌<◌, Bool, true, false, List, [], ◌∷◌, ◌++◌, length, reverse, Decides, MatchBool, MatchOption, Option, refl, ap, ◌∙◌, subst, arith}
use denote.Param.Members.{Mut}
use Rattle.std.specs.Fn.{Called}
use Rattle.std.specs.Iterator.{YieldsLastBy, YieldsThen}
use Rattle.std.specs.List.{AllByRecursion, AllWithin, FoldsTo, HoldsAt}
use Rattle.std.proofs.ByRecursion.{All-push}
use Rattle.std.proofs.lemmas.Bool.{false≢true}
use Rattle.std.proofs.lemmas.Bool.Decides.{Decides-like}
use Rattle.std.proofs.lemmas.Iterator.{YieldsList, cases_from_all}
use Rattle.std.proofs.lemmas.Iterator.Consumers.{YieldsList-from_shown}
use Rattle.std.proofs.lemmas.List.{reverse-append, reverse-reverse}
use Rattle.std.proofs.lemmas.List.Elements.{All-from_recursion, recursion_from_All}
use Rattle.sheet.proofs.Deciding.{accepts, refuses}

pub all_parts : {X : Type 0} (P : X → Type 0) (xs ys : List X) → AllByRecursion P (xs ++ ys) → AllByRecursion P xs × AllByRecursion P ys
all_parts P [] ys h = (tt, h)
all_parts P (x ∷ xs) ys h = let p = all_parts P xs ys h.1 in ((h.0, p.0), p.1)

module _ {X : Type 0} (P : X → Type 0) where
  decided : (r : Bool) (xs : List X) → MatchBool r (AllWithin P xs 0 (length xs)) ((k : ℕ) × (k < length xs) × HoldsAt (λ x. P x → ⊥) xs k) → Decides r (AllByRecursion P xs)
  decided true xs h = accepts (recursion_from_All P xs (λ k d inside. h k d (omega arith) inside))
  decided false [] h = absurd (omega (arith, h.1))
  decided false (x ∷ xs) h = refuses (λ all. h.2 x (All-from_recursion P (x ∷ xs) all h.0 x h.1))

  turned : (xs : List X) → AllByRecursion P xs → AllByRecursion P (reverse xs)
  turned [] h = tt
  turned (x ∷ xs) h = rw (reverse-append (x ∷ []) xs) (All-push P (reverse xs) x (turned xs h.1) h.0)

  pub turned_decides : (r : Bool) (xs : List X) → Decides r (AllByRecursion P (reverse xs)) → Decides r (AllByRecursion P xs)
  turned_decides r xs h = Decides-like r (λ all. rw (reverse-reverse xs) at (turned (reverse xs) all)) (turned xs) h

pub all_decides : {S A B F : Type 0} {steps : S → Option A → S → Type 0} {v : A → B} {g : Mut F (A × Unit {0}) Bool} {s : S} {all : List B} (P : B → Type 0) (u : S) (f : F) (r : Bool)
    → (xs : List A) × (o : Option A) × (j : F) × YieldsThen steps s xs o u × FoldsTo (λ p x q. Called g p (x, tt) true q) f xs j × MatchOption o (r ≡ true) (λ x. (r ≡ false) × ((h : F) × Called g j (x, tt) false h))
    → YieldsList steps v s all → ((x : A) (b : Bool) (q : F) → Called g f (x, tt) b q → (q ≡ f) × Decides b (P (v x))) → Decides r (AllByRecursion P all)
all_decides P u f r ran road each =
    decided P r _ (cases_from_all u f r P (λ x. P x → ⊥) ran road
    (λ x q called. let d = each x true q called in (d.0, d.1.0 refl))
    (λ x q called p. false≢true ((each x false q called).1.1 p)))

-- an iterator that yields from the back
pub YieldsList-from_last : {S A B : Type 0} (v : A → B) (rest : S → List B) {s : S} (xs : List B) → rest s ≡ xs → YieldsList (YieldsLastBy v rest) v s (reverse xs)
YieldsList-from_last v rest {s} xs e =
    subst (λ ys. YieldsList (YieldsLastBy v rest) v s (reverse ys)) e
    (YieldsList-from_shown (YieldsLastBy v rest) v (λ t. reverse (rest t)) (λ t u h. ap (λ ys. length (reverse ys)) h.0) (λ t x u h. ap reverse h ∙ reverse-append (rest u) (v x ∷ [])) s)
