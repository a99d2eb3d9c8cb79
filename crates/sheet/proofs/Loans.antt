-- A desk keeps its loans from call to call. Assumes nothing.
use Rattle.std.proofs.Common.{refl, ◌∙◌}
use Rattle.sheet.specs.declared.buffers.Desk.{Desk}
use Rattle.sheet.specs.Lending.{SameLoans}

module _ {W : Type 0} where
  pub loans_itself : (d : Desk W) → SameLoans d d
  loans_itself d = record { sheet = refl; row = refl; stack = refl; sheet_length = refl; row_length = refl; stack_length = refl; weights = refl; counts = refl }

  pub loans_both : {d e f : Desk W} → SameLoans d e → SameLoans e f → SameLoans d f
  loans_both first second = record {
    sheet = second.sheet ∙ first.sheet;
    row = second.row ∙ first.row;
    stack = second.stack ∙ first.stack;
    sheet_length = second.sheet_length ∙ first.sheet_length;
    row_length = second.row_length ∙ first.row_length;
    stack_length = second.stack_length ∙ first.stack_length;
    weights = second.weights ∙ first.weights;
    counts = second.counts ∙ first.counts;
  }
