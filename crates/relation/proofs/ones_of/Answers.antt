use Rattle.std.proofs.Common.{refl}
use Rattle.relation.proofs.ones_of.Goals as goal

pub returns : goal.returns
returns c = refl
