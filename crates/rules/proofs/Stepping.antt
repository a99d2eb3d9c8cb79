-- A rule that repeats a step over lent buffers: what its loop keeps, and what it answers. Assumes nothing.
use Rattle.std.proofs.Common.{◌≡◌, ℕ, ◌+◌, ◌<◌, Bool, true, false, Some, None, Option, sym, refl, ap, ◌∙◌}
use Rattle.weight.specs.Kind.{Lawful}
use Rattle.weight.specs.declared.kind.Weight.{Ghosts}
use Rattle.sheet.specs.declared.buffers.Phase.TheVariants.{Working as at_work}
use Rattle.sheet.specs.Sheets.{Sheet, Lent, decoded}
use Rattle.sheet.specs.Together.{HoldsTogether}
use Rattle.meaning.specs.declared.report.Ending.TheVariants.{Done, Limit, Full}
use Rattle.meaning.specs.declared.report.Report.{Report}
use Rattle.meaning.specs.Running.{Ran}
use Rattle.meaning.specs.Steps.{outcome, repeated_step}
use Rattle.meaning.proofs.Piling.{ran_repeated}
use Rattle.meaning.proofs.Turning.{Turning, turning_none, turning_done, turning_limit, turning_full, turning_more}
use Rattle.steps.specs.Keeping.{KeepsMeaning}
use Rattle.steps.specs.Rooms.{Room, room_of}
use Rattle.rules.specs.Answering.{Went}
pub use Rattle.rules.specs.Stepping.{Follows, repeats}
use Rattle.rules.proofs.Holding.{Framed, framed, holds, together}
use Rattle.rules.proofs.Piles.{report, behind_both}

pub follows_itself : {W : Type 0} (b : Lent W) → Follows b b
follows_itself b = record { counts = refl; room = refl; behind = refl }

follows_both : {W : Type 0} (b c d : Lent W) → Follows b c → Follows c d → Follows b d
follows_both b c d first second = record {
  counts = second.counts ∙ first.counts;
  room = second.room ∙ first.room;
  behind = behind_both b c d first.counts first.behind second.behind;
}

module _ {W : Type 0} (m : Ghosts W) (laws : Lawful m.kind) (step : Sheet m.Value → Option (Sheet m.Value)) (fits : Room → Sheet m.Value → Bool)
    (keeps : (room : Room) → KeepsMeaning m.kind step (fits room)) where
  -- a run that is exactly the repeated step
  pub went_exactly : (limit : ℕ) (b c : Lent W) (r : Report) → HoldsTogether m at_work b → Framed c → Follows b c
      → outcome r.steps r.ending (decoded m c) ≡ repeated_step step (fits (room_of b)) limit (decoded m b) → Went m (repeats step fits) limit b c r
  went_exactly limit b c r before frame follows exact = record {
    before = before;
    after = together m c frame ran.meaning.holds;
    exact = exact;
    ran = ran;
    counts = follows.counts;
    room = follows.room;
    behind = follows.behind;
  }
    where
      ran : Ran m.kind limit (decoded m b) (outcome r.steps r.ending (decoded m c))
      ran = rw exact (ran_repeated laws step (fits (room_of b)) (λ s t made room holding. (keeps (room_of b) s t made room holding).0) limit (decoded m b) (holds m b before))

  -- A loop that makes a step in each turn: b is where it began, c where it is.
  pub record Stepping (limit : ℕ) (b c : Lent W) (steps : ℕ) : Type 0 where
    pub before : HoldsTogether m at_work b
    pub still : HoldsTogether m at_work c
    pub turning : Turning step (fits (room_of b)) limit (decoded m b) (decoded m c) steps
    pub follows : Follows b c

  pub stepping_none : (limit : ℕ) (b : Lent W) → HoldsTogether m at_work b → Stepping limit b b 0
  stepping_none limit b before = record { before = before; still = before; turning = turning_none step (fits (room_of b)) limit (decoded m b); follows = follows_itself b }

  module _ {limit : ℕ} {b c : Lent W} {steps : ℕ} (h : Stepping limit b c steps) where
    ended : (r : Report) → outcome r.steps r.ending (decoded m c) ≡ repeated_step step (fits (room_of b)) limit (decoded m b) → Went m (repeats step fits) limit b c r
    ended r exact = went_exactly limit b c r h.before (framed m c h.still) h.follows exact

    pub stepping_done : step (decoded m c) ≡ None → Went m (repeats step fits) limit b c (report steps Done)
    stepping_done none = ended (report steps Done) (turning_done step (fits (room_of b)) h.turning none)

    -- there is a place
    module _ (t : Sheet m.Value) (some : step (decoded m c) ≡ Some t) where
      pub stepping_limit : steps ≡ limit → Went m (repeats step fits) limit b c (report steps Limit)
      stepping_limit all = ended (report steps Limit) (turning_limit step (fits (room_of b)) h.turning t some all)

      pub stepping_full : steps < limit → fits (room_of c) (decoded m c) ≡ false → Went m (repeats step fits) limit b c (report steps Full)
      stepping_full less full = ended (report steps Full) (turning_full step (fits (room_of b)) h.turning t some less (ap (λ room. fits room (decoded m c)) (sym h.follows.room) ∙ full))

      -- the words that were tried are behind the marks
      pub stepping_full_behind : (d : Lent W) → steps < limit → fits (room_of c) (decoded m c) ≡ false → decoded m d ≡ decoded m c → Framed d → Follows c d → Went m (repeats step fits) limit b d (report steps Full)
      stepping_full_behind d less full same frame follows =
          went_exactly limit b d (report steps Full) h.before frame (follows_both b c d h.follows follows)
          (ap (outcome steps Full) same ∙ turning_full step (fits (room_of b)) h.turning t some less (ap (λ room. fits room (decoded m c)) (sym h.follows.room) ∙ full))

    -- and its step was made
    pub stepping_more : (d : Lent W) → step (decoded m c) ≡ Some (decoded m d) → fits (room_of c) (decoded m c) ≡ true → steps < limit → Framed d → Follows c d → Stepping limit b d (steps + 1)
    stepping_more d made room less frame follows = record {
      before = h.before;
      still = together m d frame (keeps (room_of c) (decoded m c) (decoded m d) made room (holds m c h.still)).0.holds;
      turning = turning_more step (fits (room_of b)) h.turning (decoded m d) made less (ap (λ r. fits r (decoded m c)) (sym h.follows.room) ∙ room);
      follows = follows_both b c d h.follows follows;
    }
