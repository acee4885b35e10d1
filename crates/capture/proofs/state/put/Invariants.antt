use Rattle.capture.proofs.Words.{LaidWords}
use Rattle.capture.proofs.state.put.Given as goal

abbrev pub invariant-loop-i : goal.invariant-loop-i
invariant-loop-i l = LaidWords l.words l.fn.bytes l.i l.bytes
