use Rattle.std.proofs.Common.{arith}
use Rattle.lengths.proofs.Lowering.{over_is}
use Rattle.shortest.proofs.held_at.Goals as goal

pub returns-in-None : goal.returns-in-None
returns-in-None c = rw c.in-None.is (omega (arith, over_is))
