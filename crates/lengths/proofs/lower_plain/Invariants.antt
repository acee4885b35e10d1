use Rattle.table.specs.Layout.{moves_part}
use Rattle.table.specs.Meaning.{meant}
use Rattle.lengths.proofs.LowerMany.{PlainBelow}
use Rattle.lengths.proofs.lower_plain.Given as goal

abbrev pub invariant-loop-from : goal.invariant-loop-from
invariant-loop-from l = PlainBelow (meant l.table) (moves_part l.table.bytes.now) l.from-index l.fn.scratch l.fn.queue.due l.scratch l.queue.due
