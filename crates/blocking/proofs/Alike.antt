-- Whether a literal blocks its clause is asked of which literals the clause has. Assumes nothing.
use Rattle.std.proofs.Common.{◌≡◌, ℕ, Bool, not, ◌&&◌, ◌||◌, List, ap}
use Rattle.sheet.specs.declared.clause.Tag.TheVariants.{Working}
use Rattle.sheet.specs.declared.row.Item.{Item}
use Rattle.sheet.specs.Literals.{opposite, has}
use Rattle.sheet.specs.Clauses.{Clause}
use Rattle.steps.specs.Rewriting.{plain_lit}
use Rattle.steps.specs.Blocking.{denies_other}
use Rattle.places.proofs.Alike.{some_among, every_alike}
use Rattle.blocking.specs.Blocks.{blocks_in, all_block, blocked_in}

pub blocked_alike : (row : List Item) (cs : List Clause) (ws vs : List ℕ) (w : ℕ) → ((x : ℕ) → has x ws ≡ has x vs) → blocked_in row cs ws w ≡ blocked_in row cs vs w
unfolding all_block blocks_in
blocked_alike row cs ws vs w same =
    ap (λ b. plain_lit row w && b) (every_alike (blocks_in row ws w) (blocks_in row vs w) (λ d. ap (λ b. not (has (opposite w) d.lits) || b) (some_among (denies_other row w d) ws vs same)) cs)
