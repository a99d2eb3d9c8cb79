-- From a sheet that calls reached, the calls reach one again. Assumes nothing.
use Rattle.std.proofs.Common.{◌≡◌, ◌<◌, ◌≤◌, true, List, [], ◌∷◌, ◌++◌, map, length, ℤ, None, Ok, Err, Result, sym, refl, ap, ◌∙◌, subst, inl, inr, arith}
use Rattle.std.proofs.lemmas.List.{length-append, length-map, length-take}
use Rattle.std.proofs.lemmas.Bool.{cases_Bool}
use Rattle.weight.specs.Kind.{Kind, Lawful, total_of}
use Rattle.weight.specs.Total.{total_in}
use Rattle.weight.specs.declared.kind.Weight.{Ghosts}
use Rattle.weight.proofs.Folding.{total_append}
use Rattle.sheet.specs.declared.refusal.Refusal.{Refusal}
use Rattle.sheet.specs.Sheets.{Lent, used_weights, decoded}
use Rattle.meaning.specs.Accepted.{sent_of}
use Rattle.meaning.specs.Calls.{normal, tautology, after_add, stored, Added, Reached, gathering, by_add}
use Rattle.meaning.proofs.Reaching.{reached_faithful}
use Rattle.sending.specs.Sending.{InRange}
use Rattle.sending.proofs.Refusing.{none_bad}
use Rattle.session.specs.declared.claim.Claim.{Claim}
use Rattle.session.specs.declared.claim.Claim.TheVariants.{Hard, Soft}
use Rattle.session.specs.Adding.{accepted, soft_cause, add_cause, Taken, AddAnswered, AddFaithful}
use Rattle.session.proofs.Accepting.{sent_is, good_literals, soft_admitted, soft_passes}

-- a total of weights is one of their values
total_map : {V W : Type 0} (k : Kind V) (value : W → V) (ws : List W) → total_of k (λ v. v) (map value ws) ≡ total_of k value ws
total_map k value [] = refl
total_map k value (w ∷ ws) = ap (k.sum (value w)) (total_map k value ws)

module _ {W : Type 0} (m : Ghosts W) (laws : Lawful m.kind) (b : Lent W) where
  abbrev Kept : List m.Value → Type 0
  Kept ws = (length ws ≤ 2000) × (m.kind.within (total_of m.kind (λ w. w) ws) ≡ true)

  -- the weights that were there
  module _ (few : b.counts.softs ≤ 2000) (ceiling : m.kind.within (total_in m (used_weights b)) ≡ true) where
    kept_before : Kept (map m.value (used_weights b))
    kept_before =
        let long = length-map (used_weights b) m.value in
        let most = length-take b.counts.softs b.weights in
        (omega arith, ap m.kind.within (total_map m.kind m.value (used_weights b)) ∙ ceiling)

    -- and one more
    kept_more : (w : W) → b.counts.softs < 2000 → m.kind.within (m.kind.sum (total_in m (used_weights b)) (m.value w)) ≡ true → Kept (map m.value (used_weights b) ++ (m.value w ∷ []))
    kept_more w free within =
        let k = m.kind in
        let ws = map m.value (used_weights b) in
        let long = length-map (used_weights b) m.value in
        let most = length-take b.counts.softs b.weights in
        let sum : total_of k (λ v. v) (ws ++ (m.value w ∷ [])) ≡ k.sum (total_in m (used_weights b)) (m.value w) =
        total_append laws (λ v. v) ws (m.value w ∷ []) ∙ ap (k.sum (total_of k (λ v. v) ws)) (laws.sum_zero (m.value w)) ∙ ap (λ t. k.sum t (m.value w)) (total_map k m.value (used_weights b)) in
        (simp length-append (omega arith), ap k.within sum ∙ within)

    kept_stored : (zs : List ℤ) (claim : Claim W) → soft_cause m b.counts.softs b.weights claim ≡ None → Kept (stored (decoded m b) (accepted m zs claim)).weights
    unfolding decoded
    kept_stored zs Hard none = kept_before
    kept_stored zs (Soft w) none = let passes = soft_passes m b.counts.softs b.weights w none in kept_more w passes.0 passes.2

    kept_after : (zs : List ℤ) (claim : Claim W) → add_cause m b zs claim ≡ None → Kept (after_add (decoded m b) (accepted m zs claim)).weights
    unfolding decoded
    kept_after zs claim passes = elim (cases_Bool (tautology (normal (sent_of (accepted m zs claim))))) [
      | inl both ↦ rw both kept_before
      | inr plain ↦ rw plain (kept_stored zs claim (soft_admitted m b zs claim passes (sym (ap (λ ys. tautology (normal ys)) (sent_is m b zs claim)) ∙ plain)))
    ]

  pub taken_added : (zs : List ℤ) (claim : Claim W) (c : Lent W) → b.counts.softs ≤ 2000 → Taken m zs claim b c → Added m.kind (accepted m zs claim) (decoded m b) (decoded m c)
  unfolding decoded
  taken_added zs claim c few taken =
      let kept = subst (λ s. Kept s.weights) (sym taken.after) (kept_after few taken.together.weights.ceiling zs claim taken.passes) in
      record {
        ranged = subst (λ ys. InRange b.counts.callers ys) (sym (sent_is m b zs claim)) (none_bad b.counts.callers 0 zs (good_literals m b zs claim taken.passes));
        after = taken.after;
        softs = kept.0;
        ceiling = kept.1;
      }

  pub add_faithful : (zs : List ℤ) (claim : Claim W) (c : Lent W) (r : Result Unit Refusal) → b.counts.softs ≤ 2000 → AddAnswered m zs claim b c r → AddFaithful m zs claim b c r
  add_faithful zs claim c (Ok done) few taken acc reached =
      let next : Reached m.kind gathering (acc ++ (accepted m zs claim ∷ [])) (decoded m c) = by_add reached (taken_added zs claim c few taken) in
      (next, reached_faithful laws gathering _ _ next)
  add_faithful zs claim c (Err e) few refused acc reached =
      let same : Reached m.kind gathering acc (decoded m c) = subst (λ x. Reached m.kind gathering acc (decoded m x)) (sym refused.1) reached in
      (same, reached_faithful laws gathering _ _ same)
