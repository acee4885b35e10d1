use Rattle.lengths.specs.Steps.{LoweredSame}
use Rattle.lengths.proofs.lower_same.Given as goal

abbrev pub invariant-loop-p : goal.invariant-loop-p
invariant-loop-p l = LoweredSame l.p l.fn.scratch l.fn.queue.due l.scratch l.queue.due
