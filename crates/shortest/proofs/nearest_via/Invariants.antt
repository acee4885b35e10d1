use Rattle.lengths.specs.Steps.{length_in}
use Rattle.shortest.proofs.Finding.{ViaBelow}
use Rattle.shortest.proofs.nearest_via.Given as goal

abbrev pub invariant-loop-r : goal.invariant-loop-r
invariant-loop-r l = ViaBelow l.states (length_in l.scratch) l.p l.q l.r l.best l.least
