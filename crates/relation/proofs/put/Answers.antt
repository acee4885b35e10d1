use Rattle.relation.proofs.Owned.{owned}
use Rattle.relation.proofs.Relations.{with_pair}
use Rattle.relation.proofs.put.Goals as goal

pub returns : goal.returns
returns c = with_pair (owned _ _ c.well_formed.0) c.requires.0 c.requires.1
