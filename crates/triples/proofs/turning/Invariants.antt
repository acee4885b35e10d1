-- Of the numbers that the loop has come by, those that turn are in the rows of their far values.
use Rattle.std.proofs.Common.{get_or, ◌≡◌}
use Rattle.triples.proofs.Numbers.{NumbersSoFar}
use Rattle.triples.proofs.turning.Given as goal

abbrev pub invariant-loop-j : goal.invariant-loop-j
invariant-loop-j l = NumbersSoFar (λ j. get_or l.third j 0 ≡ get_or l.near j 0) l.fn.far l.j l.r
