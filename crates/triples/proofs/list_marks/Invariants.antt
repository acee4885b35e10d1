-- The trimmed marks over the marks that the loop has come by are appended, and their ways are found.
use Rattle.table.specs.Meaning.{meant}
use Rattle.triples.proofs.Marks.{MarksSoFar}
use Rattle.triples.proofs.list_marks.Given as goal

abbrev pub invariant-loop-mark : goal.invariant-loop-mark
invariant-loop-mark l = MarksSoFar (meant l.fn.table) l.mark l.fn.scratch l.scratch l.ways
