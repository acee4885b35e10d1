use Rattle.std.proofs.Common.{◌+◌, ◌≤◌}
use Rattle.vpa.specs.Shortest.{HasLength}
use Rattle.vpa.specs.TableOnDisk.{automaton}
use Rattle.lengths.specs.Limit.{over}
use Rattle.lengths.specs.Steps.{length_in}
use Rattle.lengths.proofs.LowerMany.{LoweredBelow}
use Rattle.lengths.proofs.lower_beside.Given as goal

abbrev pub invariant-loop-r : goal.invariant-loop-r
invariant-loop-r l = record {
  after : LoweredBelow (λ r. length_in l.fn.scratch l.q r ≤ over) (λ r. l.p) (λ r. r) (λ r. l.moves + length_in l.fn.scratch l.q r)
      (λ t. HasLength (automaton t) over l.p l.q l.moves) l.r l.fn.scratch l.fn.queue.due l.scratch l.queue.due;
  before : LoweredBelow (λ r. length_in l.fn.scratch r l.p ≤ over) (λ r. r) (λ r. l.q) (λ r. length_in l.fn.scratch r l.p + l.moves)
      (λ t. HasLength (automaton t) over l.p l.q l.moves) l.r l.fn.scratch l.fn.queue.due l.scratch l.queue.due;
}
