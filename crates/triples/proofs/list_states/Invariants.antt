-- The rows of the trimmed states that begin where the loop has come by are appended.
use Rattle.triples.specs.Steps.{states_from}
use Rattle.triples.proofs.Rows.{ListedBelow}
use Rattle.triples.proofs.list_states.Given as goal

abbrev pub invariant-loop-o : goal.invariant-loop-o
invariant-loop-o l = ListedBelow 64 (states_from l.balanced l.fn.live) l.o l.fn.scratch 0 l.scratch l.count
