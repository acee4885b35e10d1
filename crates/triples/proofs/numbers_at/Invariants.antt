-- The numbers that the loop has come by are in the rows of their values.
use Rattle.triples.proofs.Numbers.{NumbersSoFar}
use Rattle.triples.proofs.numbers_at.Given as goal

abbrev pub invariant-loop-j : goal.invariant-loop-j
invariant-loop-j l = NumbersSoFar (λ j. Unit {0}) l.fn.values l.j l.r
