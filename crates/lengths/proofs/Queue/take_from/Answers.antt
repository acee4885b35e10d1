use Rattle.lengths.proofs.Search.{taken_out}
use Rattle.lengths.proofs.Queue.take_from.Goals as goal

pub returns : goal.returns
returns c = let e = c.soonest_in-q.ensures in taken_out _ _ _ e.0 e.1
