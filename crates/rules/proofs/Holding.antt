-- Buffers of a working sheet hold together where they are laid out and the sheet that they stand for holds together. Assumes nothing.
use Rattle.std.proofs.Common.{◌≡◌, ℕ, zero, suc, ◌≤◌, true, List, [], ◌∷◌, ◌++◌, map, length, take, sym, refl, ap, ◌∙◌, arith}
use Rattle.std.specs.List.{AllByRecursion}
use Rattle.std.proofs.ByRecursion.{All-weaker}
use Rattle.std.proofs.lemmas.List.{get_or-take, length-map, length-take-le}
use Rattle.std.proofs.lemmas.Bool.{false≢true}
use Rattle.weight.specs.Kind.{Kind, total_of}
use Rattle.weight.specs.declared.kind.Weight.{Ghosts}
use Rattle.sheet.specs.declared.buffers.Phase.TheVariants.{Working as at_work}
use Rattle.sheet.specs.declared.clause.Tag.{Tag}
use Rattle.sheet.specs.declared.clause.Tag.TheVariants.{Hard, Soft, Working}
use Rattle.sheet.specs.declared.refusal.Part.{Part}
use Rattle.sheet.specs.declared.refusal.Part.TheVariants.{Sheet as in_sheet, Row as in_row, Stack as in_stack, Weights as in_weights}
use Rattle.sheet.specs.declared.row.Item.{Item}
use Rattle.sheet.specs.Literals.{item_of}
use Rattle.sheet.specs.Rows.{item_at, is_label, is_live, label_ordinals}
use Rattle.sheet.specs.Clauses.{Clause, soft_ordinals, ordinal_of}
use Rattle.sheet.specs.Sheets.{Lent, used_clauses, used_row, used_weights, decoded}
use Rattle.sheet.specs.Together.{Stands, Distinct, of_phase, HoldsTogether, Fails}
use Rattle.sheet.proofs.Laying.{valid_laid}
use Rattle.sheet.proofs.Stacking.{stacked_valid}
use Rattle.meaning.specs.Running.{Holds}
pub use Rattle.rules.specs.Stepping.{Framed}

-- Working clauses.

is_working : (t : Tag) → of_phase at_work t ≡ true → t ≡ Working
is_working Hard is = absurd (false≢true is)
is_working (Soft n) is = absurd (false≢true is)
is_working Working is = refl

-- they have no ordinals
no_ordinals : (cs : List Clause) → AllByRecursion (λ c. c.tag ≡ Working) cs → soft_ordinals cs ≡ []
no_ordinals [] working = refl
no_ordinals (c ∷ cs) working = ap (λ t. ordinal_of t ++ soft_ordinals cs) working.0 ∙ no_ordinals cs working.1

distinct_behind : (ns ms : List ℕ) → Distinct (ns ++ ms) → Distinct ms
distinct_behind [] ms apart = apart
distinct_behind (n ∷ ns) ms apart = distinct_behind ns ms apart.1

total_map : {V W : Type 0} (k : Kind V) (value : W → V) (ws : List W) → total_of k (λ x. x) (map value ws) ≡ total_of k value ws
total_map k value [] = refl
total_map k value (w ∷ ws) = ap (k.sum (value w)) (total_map k value ws)

-- An item of the first n, in the row and in its front.

item_front : (row : List Item) (n i : ℕ) → i ≤ n → item_at (take n row) i ≡ item_at row i
item_front row n zero inside = refl
item_front row n (suc i) inside = get_or-take n row i _ (omega arith)

module _ (row : List Item) (n : ℕ) (long : n ≤ length row) (w : ℕ) where
  count : length (take n row) ≡ n
  count = length-take-le n row long

  stands_front : Stands at_work n row w → Stands at_work (length (take n row)) (take n row) w
  stands_front stands =
      let high = stands.literal.high in
      let same = item_front row n (item_of w) high in
      let fits : item_of w ≤ length row = omega arith in
      record {
        literal = rw count stands.literal;
        live = λ inside. ap (λ x. is_live x.standing) same ∙ stands.live fits;
        undenied = λ inside denied. ap (λ x. is_label x.standing) same ∙ stands.undenied fits denied;
      }

  stands_whole : Stands at_work (length (take n row)) (take n row) w → Stands at_work n row w
  stands_whole stands =
      let here = rw count at stands.literal in
      let fits : item_of w ≤ length (take n row) = stands.literal.high in
      let high = here.high in
      let same = item_front row n (item_of w) high in
      record {
        literal = here;
        live = λ inside. sym (ap (λ x. is_live x.standing) same) ∙ stands.live fits;
        undenied = λ inside denied. sym (ap (λ x. is_label x.standing) same) ∙ stands.undenied fits denied;
      }

module _ {W : Type 0} (m : Ghosts W) (b : Lent W) where
  weights_count : b.counts.softs ≤ length b.weights → length (map m.value (used_weights b)) ≡ b.counts.softs
  weights_count fits = length-map (used_weights b) m.value ∙ length-take-le b.counts.softs b.weights fits

  pub framed : HoldsTogether m at_work b → Framed b
  framed t = record {
    sheet = t.sheet.fits;
    laid = t.sheet.laid;
    row = t.row.fits;
    stack = t.stack.fits;
    stacked = t.stack.laid;
    weights = t.weights.fits;
  }

  pub holds : HoldsTogether m at_work b → Holds m.kind (decoded m b)
  unfolding decoded
  holds t = record {
    kinds = All-weaker _ _ (λ c. is_working c.tag) (used_clauses b) t.sheet.kinds;
    valid = valid_laid _ t.sheet.laid;
    literals = All-weaker _ _ (λ c. All-weaker _ _ (stands_front b.row b.counts.items t.row.fits) c.lits) (used_clauses b) t.sheet.literals;
    ranged = rw (weights_count t.weights.fits) t.row.ranged;
    apart = distinct_behind (soft_ordinals (used_clauses b)) (label_ordinals (used_row b)) t.row.apart;
    records = stacked_valid _ t.stack.laid;
    named = rw (length-take-le b.counts.items b.row t.row.fits) t.stack.literals;
    ceiling = ap m.kind.within (total_map m.kind m.value (used_weights b)) ∙ t.weights.ceiling;
  }

  pub together : Framed b → Holds m.kind (decoded m b) → HoldsTogether m at_work b
  unfolding decoded
  together f h =
      let none = no_ordinals (used_clauses b) h.kinds in
      record {
        sheet = record {
          fits = f.sheet;
          laid = f.laid;
          kinds = All-weaker _ _ (λ c is. ap (of_phase at_work) is) (used_clauses b) h.kinds;
          literals = All-weaker _ _ (λ c. All-weaker _ _ (stands_whole b.row b.counts.items f.row) c.lits) (used_clauses b) h.literals;
          ranged = rw none tt;
          apart = rw none tt;
        };
        row = record {
          fits = f.row;
          ranged = rw (weights_count f.weights) at h.ranged;
          apart = rw none h.apart;
        };
        stack = record {
          fits = f.stack;
          laid = f.stacked;
          literals = rw (length-take-le b.counts.items b.row f.row) at h.named;
          empty = tt;
        };
        weights = record { fits = f.weights; ceiling = sym (ap m.kind.within (total_map m.kind m.value (used_weights b))) ∙ h.ceiling };
      }

  -- no part fails
  pub none_fails : HoldsTogether m at_work b → (part : Part) → Fails m at_work b part → ⊥
  none_fails t in_sheet fails = fails t.sheet
  none_fails t in_row fails = fails.1 t.row
  none_fails t in_stack fails = fails.2 t.stack
  none_fails t in_weights fails = fails.3 t.weights
