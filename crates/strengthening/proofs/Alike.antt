-- Whether a literal may leave its clause is asked of which literals the clause has. Assumes nothing.
use Rattle.std.proofs.Common.{◌≡◌, ℕ, ◌&&◌, List, ap}
use Rattle.sheet.specs.declared.row.Item.{Item}
use Rattle.sheet.specs.Literals.{opposite, has}
use Rattle.sheet.specs.Clauses.{Clause}
use Rattle.steps.specs.Rewriting.{but, plain_lit}
use Rattle.places.proofs.Alike.{inside_among, some_alike}
use Rattle.strengthening.specs.Leaving.{yields_to, yielded, leaves}

pub leaves_alike : (row : List Item) (cs : List Clause) (ws vs : List ℕ) (w : ℕ) → ((x : ℕ) → has x ws ≡ has x vs) → leaves row cs ws w ≡ leaves row cs vs w
unfolding yielded
leaves_alike row cs ws vs w same =
    let denial = opposite w in
    ap (λ b. plain_lit row w && b) (some_alike (yields_to ws denial) (yields_to vs denial) (λ d. ap (λ b. has denial d.lits && b) (inside_among (but denial d.lits) ws vs same)) cs)
