use Rattle.std.proofs.Common.{arith}
use Rattle.lengths.proofs.LowerOne.{same_more}
use Rattle.lengths.proofs.lower_same.Goals as goal

pub loop-p-preserved : goal.loop-p-preserved
loop-p-preserved c = same_more (omega arith) c.loop-p.invariant c.lower.ensures
