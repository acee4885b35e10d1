-- The rows that the loop has come by are made from the two that the values of their numbers name.
use Rattle.relation.proofs.Relations.{Built}
use Rattle.triples.specs.Steps.{OnLevel}
use Rattle.triples.proofs.on_levels.Given as goal

abbrev pub invariant-loop-i : goal.invariant-loop-i
invariant-loop-i l = Built (OnLevel l.begun l.ending l.fn.first l.second l.n) l.i l.r
