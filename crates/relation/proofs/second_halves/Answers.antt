use Rattle.std.proofs.Common.{arith}
use Rattle.relation.proofs.Owned.{owned}
use Rattle.relation.proofs.Walks.{gathered_all}
use Rattle.relation.proofs.second_halves.Goals as goal

pub returns : goal.returns
returns c = gathered_all (omega arith) (owned _ _ c.well_formed.0) c.together.ensures
