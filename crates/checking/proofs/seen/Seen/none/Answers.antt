use Rattle.checking.proofs.Noting.{noted_none}
use Rattle.checking.proofs.seen.Seen.none.Goals as goal

pub returns : goal.returns
returns c = noted_none 65536
