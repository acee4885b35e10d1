use Rattle.vpa.specs.Reader.{Started}
use Rattle.vpa.specs.TableOnDisk.{automaton}
use Rattle.table.specs.Meaning.{meant}
use Rattle.pair_sets.proofs.Accepting.{RowsTo}
use Rattle.pair_sets.proofs.begun.Given as goal

abbrev pub invariant-loop-i : goal.invariant-loop-i
invariant-loop-i l = RowsTo (Started (automaton (meant l.table))) l.table.counts.states l.i l.row-items
