use Rattle.marking.proofs.Flags.{flagged_none}
use Rattle.marking.proofs.Marked.none.Goals as goal

pub returns : goal.returns
returns c = flagged_none 65536
