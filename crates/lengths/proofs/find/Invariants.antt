use Rattle.table.specs.Meaning.{meant}
use Rattle.nesting.specs.Scratch.{KeptFrom}
use Rattle.lengths.specs.Steps.{Searched, work_left}
use Rattle.lengths.proofs.find.Given as goal

abbrev pub invariant-loop-p : goal.invariant-loop-p
invariant-loop-p l = record { searched : Searched (meant l.table) l.scratch l.queue.due; kept : KeptFrom 4096 l.fn.scratch l.scratch }

abbrev pub decreases-loop-p : goal.decreases-loop-p
decreases-loop-p l = work_left l.scratch l.queue.due
