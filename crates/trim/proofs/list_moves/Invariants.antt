-- The moves of the states that the loop has come by are appended.
use Rattle.table.specs.Meaning.{meant}
use Rattle.trim.specs.Steps.{moves_from}
use Rattle.triples.proofs.Rows.{ListedBelow}
use Rattle.trim.proofs.list_moves.Given as goal

abbrev pub invariant-loop-number : goal.invariant-loop-number
invariant-loop-number l = ListedBelow 1024 (moves_from (meant l.table)) l.number l.fn.scratch 0 l.scratch l.total
