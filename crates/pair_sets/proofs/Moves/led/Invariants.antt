use Rattle.std.proofs.Common.{◌≡◌, ◌/◌, length}
use Rattle.table.specs.Layout.{moves_part}
use Rattle.lengths.specs.Steps.{Chained}
use Rattle.pair_sets.proofs.Closing.{Gathered, LeadsAt}
use Rattle.pair_sets.proofs.Moves.led.Given as goal

abbrev pub invariant-loop-k : goal.invariant-loop-k
invariant-loop-k l = record {
  chained : Chained (moves_part l.self.table.now.bytes.now) 0 l.k-iterator.chain.now;
  count : l.k-iterator.count ≡ length (moves_part l.self.table.now.bytes.now) / 4;
  gathered : Gathered (moves_part l.self.table.now.bytes.now) l.p (LeadsAt (moves_part l.self.table.now.bytes.now) l.letter l.mark) l.k-iterator.next l.y;
}
