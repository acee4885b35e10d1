-- The moves that the loop has come by lead to the digits that are 1.
use Rattle.trim.proofs.Blocks.{ArrivedSoFar}
use Rattle.trim.proofs.targets.Given as goal

abbrev pub invariant-loop-with : goal.invariant-loop-with
invariant-loop-with l = ArrivedSoFar l.fn.block l.mark l.here l.with-index l.r
