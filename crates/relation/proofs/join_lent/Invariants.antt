use Rattle.relation.specs.Relations.{Joined}
use Rattle.relation.proofs.Relations.{Built}
use Rattle.relation.proofs.join_lent.Given as goal

abbrev pub invariant-loop-j : goal.invariant-loop-j
invariant-loop-j l = Built (Joined l.r l.s) l.j l.t
