use Rattle.table.specs.Meaning.{meant}
use Rattle.shortest.specs.Steps.{LeastTop}
use Rattle.shortest.proofs.least_top.Given as goal

abbrev pub invariant-loop-i : goal.invariant-loop-i
invariant-loop-i l = LeastTop (meant l.table) l.scratch l.i l.top
