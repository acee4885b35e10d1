use Rattle.relation.proofs.Walks.{TurnedSoFar}
use Rattle.relation.proofs.transposed.Given as goal

abbrev pub invariant-loop-j : goal.invariant-loop-j
invariant-loop-j l = TurnedSoFar l.fn.r l.j l.t
