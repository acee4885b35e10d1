use Rattle.table.specs.Meaning.{meant}
use Rattle.shortest.proofs.Walks.{LogSoFar}
use Rattle.shortest.proofs.write_log.Given as goal

abbrev pub invariant-loop-place : goal.invariant-loop-place
invariant-loop-place l = LogSoFar (meant l.links.table.now) l.fn.top.moves l.fn.scratch l.fn.out l.place l.scratch l.out l.walk
