use Rattle.table.specs.Meaning.{meant}
use Rattle.shortest.specs.Steps.{LesserTop}
use Rattle.shortest.proofs.lesser_top.Given as goal

abbrev pub invariant-loop-f : goal.invariant-loop-f
invariant-loop-f l = LesserTop (meant l.table) l.scratch l.f l.i l.fn.best l.top
