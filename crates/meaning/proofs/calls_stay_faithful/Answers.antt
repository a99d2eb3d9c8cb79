use Rattle.meaning.proofs.Reaching.{reached_faithful}
use Rattle.meaning.proofs.calls_stay_faithful.Goals as goal

pub returns : goal.returns
returns g c = reached_faithful g.met.W.Weight.lawful
