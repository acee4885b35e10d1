use Rattle.relation.proofs.Relations.{zeros_hold}
use Rattle.relation.proofs.empty.Goals as goal

pub returns : goal.returns
returns c = zeros_hold
