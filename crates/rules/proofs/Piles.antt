-- What rules made of rules answer, from what the rules that they hold answer. Assumes nothing.
use Rattle.std.proofs.Common.{◌≡◌, ℕ, suc, ◌+◌, ◌-◌, ◌<◌, ◌≤◌, true, false, drop, refl, ap, ◌∙◌, subst, add-zero, arith}
use Rattle.weight.specs.Kind.{Lawful}
use Rattle.weight.specs.declared.kind.Weight.{Ghosts}
use Rattle.sheet.specs.declared.buffers.Counts.{Counts}
use Rattle.sheet.specs.declared.buffers.Phase.TheVariants.{Working as at_work}
use Rattle.sheet.specs.declared.refusal.Part.{Part}
use Rattle.sheet.specs.declared.refusal.Refusal.{Refusal}
use Rattle.sheet.specs.declared.refusal.Refusal.TheVariants.{NotTogether}
use Rattle.sheet.specs.Sheets.{Sheet, Lent, decoded}
use Rattle.sheet.specs.Together.{HoldsTogether, Fails}
use Rattle.meaning.specs.declared.report.Ending.{Ending}
use Rattle.meaning.specs.declared.report.Ending.TheVariants.{Done, Rounds}
use Rattle.meaning.specs.declared.report.Report.{Report}
use Rattle.meaning.specs.Running.{Outcome, Ran}
use Rattle.meaning.specs.Steps.{outcome, following, Runs, is_going_on, Then, Repeated}
use Rattle.meaning.proofs.Piling.{ran_none, ran_then, ran_idle, unlimited}
use Rattle.meaning.proofs.Turning.{following_none, following_both}
use Rattle.steps.specs.Rooms.{Room, room_of}
use Rattle.rules.specs.Answering.{Went}
use Rattle.rules.proofs.Holding.{holds, none_fails}

abbrev pub report : ℕ → Ending → Report
report steps ending = record { steps = steps; ending = ending }

-- what a run from c to d leaves of the row that b has
pub behind_both : {W : Type 0} (b c d : Lent W) → c.counts ≡ b.counts → drop b.counts.items c.row ≡ drop b.counts.items b.row → drop c.counts.items d.row ≡ drop c.counts.items c.row → drop b.counts.items d.row ≡ drop b.counts.items b.row
behind_both b c d counts first second = subst (λ (n : Counts). drop n.items d.row ≡ drop n.items c.row) counts second ∙ first

module _ {W : Type 0} (m : Ghosts W) where
  -- after a run the buffers hold together, so that the next refuses nothing
  pub no_refusal : {X : Type 0} (c : Lent W) {e : Refusal} → HoldsTogether m at_work c → (part : Part) × (e ≡ NotTogether part) × Fails m at_work c part → X
  no_refusal c still refused = absurd (none_fails m c still refused.0 refused.2)

  module _ (laws : Lawful m.kind) where
    -- One rule, then another.
    module _ (first second : Room → Runs (Sheet m.Value)) (n : ℕ) (b : Lent W) where
      pub then_stops : {c : Lent W} {r : Report} → Went m first n b c r → is_going_on r.ending ≡ false → Went m (λ room. Then (first room) (second room)) n b c r
      then_stops went ends = record {
        before = went.before;
        after = went.after;
        exact = Then.stops went.exact ends;
        ran = went.ran;
        counts = went.counts;
        room = went.room;
        behind = went.behind;
      }

      pub then_goes_on : {c d : Lent W} {r s : Report} → Went m first n b c r → is_going_on r.ending ≡ true → Went m second (n - r.steps) c d s
          → Went m (λ room. Then (first room) (second room)) n b d (report (r.steps + s.steps) s.ending)
      then_goes_on {c} {d} {r} {s} one ends other = record {
        before = one.before;
        after = other.after;
        exact = Then.goes_on one.exact ends (subst (λ room. second room (n - r.steps) (decoded m c) (outcome s.steps s.ending (decoded m d))) one.room other.exact);
        ran = ran_then laws one.ran other.ran;
        counts = other.counts ∙ one.counts;
        room = other.room ∙ one.room;
        behind = behind_both b c d one.counts one.behind other.behind;
      }

  -- Rounds: i are made, with some steps, and whatever the others come to, all come to that after these steps.
  pub record Going (rule : Room → Runs (Sheet m.Value)) (rounds n : ℕ) (b c : Lent W) (i steps : ℕ) : Type 0 where
    pub before : HoldsTogether m at_work b
    pub still : HoldsTogether m at_work c
    pub spent : steps ≤ n
    pub exact : (o : Outcome (Sheet m.Value)) → Repeated (rule (room_of b)) (rounds - i) (n - steps) (decoded m c) o → Repeated (rule (room_of b)) rounds n (decoded m b) (following steps o)
    pub ran : (o : Outcome (Sheet m.Value)) → Ran m.kind (n - steps) (decoded m c) o → Ran m.kind n (decoded m b) (following steps o)
    pub counts : c.counts ≡ b.counts
    pub room : room_of c ≡ room_of b
    pub behind : drop b.counts.items c.row ≡ drop b.counts.items b.row

  module _ (rule : Room → Runs (Sheet m.Value)) (rounds n : ℕ) (b : Lent W) where
    pub going_none : HoldsTogether m at_work b → Going rule rounds n b b 0 0
    going_none before =
        let all : rounds - 0 ≡ rounds = omega arith in
        let whole : n - 0 ≡ n = omega arith in
        record {
          before = before;
          still = before;
          spent = omega arith;
          exact = λ o rest. rw (following_none o) (rw (all, whole) at rest);
          ran = λ o rest. rw (following_none o) (rw whole at rest);
          counts = refl;
          room = refl;
          behind = refl;
        }

    module _ (laws : Lawful m.kind) {c : Lent W} {i steps : ℕ} (going : Going rule rounds n b c i steps) where
      abbrev rounded : Room → Runs (Sheet m.Value)
      rounded room = Repeated (rule room) rounds

      pub going_all : rounds ≤ i → Went m rounded n b c (report steps Rounds)
      going_all past =
          let none : rounds - i ≡ 0 = omega arith in
          let end : following steps (outcome 0 Rounds (decoded m c)) ≡ outcome steps Rounds (decoded m c) = ap (λ k. outcome k Rounds (decoded m c)) (add-zero steps) in
          record {
            before = going.before;
            after = going.still;
            exact = rw end at (going.exact (outcome 0 Rounds (decoded m c)) (rw none Repeated.no_rounds));
            ran = rw end at (going.ran (outcome 0 Rounds (decoded m c)) (ran_none laws (n - steps) Rounds (holds m c going.still) (unlimited Rounds refl)));
            counts = going.counts;
            room = going.room;
            behind = going.behind;
          }

      -- a further round
      module _ (less : i < rounds) {d : Lent W} {r : Report} (went : Went m rule (n - steps) c d r) where
        one : rule (room_of b) (n - steps) (decoded m c) (outcome r.steps r.ending (decoded m d))
        one = subst (λ room. rule room (n - steps) (decoded m c) (outcome r.steps r.ending (decoded m d))) going.room went.exact

        left : rounds - i ≡ suc (rounds - (i + 1))
        left = omega arith

        pub round_stops : is_going_on r.ending ≡ false → Went m rounded n b d (report (steps + r.steps) r.ending)
        round_stops ends = record {
          before = going.before;
          after = went.after;
          exact = going.exact (outcome r.steps r.ending (decoded m d)) (rw left (Repeated.stops one ends));
          ran = going.ran (outcome r.steps r.ending (decoded m d)) went.ran;
          counts = went.counts ∙ going.counts;
          room = went.room ∙ going.room;
          behind = behind_both b c d going.counts going.behind went.behind;
        }

        pub round_idles : is_going_on r.ending ≡ true → r.steps ≡ 0 → Went m rounded n b d (report steps Done)
        round_idles ends none =
            let end : following steps (outcome 0 Done (decoded m d)) ≡ outcome steps Done (decoded m d) = ap (λ k. outcome k Done (decoded m d)) (add-zero steps) in
            record {
              before = going.before;
              after = went.after;
              exact = rw end at (going.exact (outcome 0 Done (decoded m d)) (rw left (Repeated.idle one ends none)));
              ran = rw end at (going.ran (outcome 0 Done (decoded m d)) (ran_idle went.ran none));
              counts = went.counts ∙ going.counts;
              room = went.room ∙ going.room;
              behind = behind_both b c d going.counts going.behind went.behind;
            }

        pub going_more : is_going_on r.ending ≡ true → (r.steps ≡ 0 → ⊥) → Going rule rounds n b d (i + 1) (steps + r.steps)
        going_more ends some =
            let spent = went.ran.spent in
            let first = going.spent in
            let unused : n - (steps + r.steps) ≡ n - steps - r.steps = omega arith in
            let next = λ (o : Outcome (Sheet m.Value)). subst (λ k. Repeated (rule (room_of b)) (rounds - (i + 1)) k (decoded m d) o) unused in
            let later = λ (o : Outcome (Sheet m.Value)). subst (λ k. Ran m.kind k (decoded m d) o) unused in
            record {
              before = going.before;
              still = went.after;
              spent = omega arith;
              exact = λ o rest. rw (following_both steps r.steps o) at (going.exact (following r.steps o) (rw left (Repeated.goes_on one ends some (next o rest))));
              ran = λ o rest. rw (following_both steps r.steps o) at (going.ran (following r.steps o) (ran_then laws went.ran (later o rest)));
              counts = went.counts ∙ going.counts;
              room = went.room ∙ going.room;
              behind = behind_both b c d going.counts going.behind went.behind;
            }
