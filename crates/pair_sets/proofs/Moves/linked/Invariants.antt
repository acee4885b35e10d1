use Rattle.std.proofs.Common.{◌≡◌, ◌/◌, length}
use Rattle.table.specs.Layout.{moves_part}
use Rattle.table.specs.Meaning.{meant}
use Rattle.lengths.specs.Steps.{Chained}
use Rattle.pair_sets.proofs.Closing.{Gathered, LinksAt}
use Rattle.pair_sets.proofs.Moves.linked.Given as goal

abbrev pub invariant-loop-k : goal.invariant-loop-k
invariant-loop-k l = record {
  chained : Chained (moves_part l.self.table.now.bytes.now) 0 l.k-iterator.chain.now;
  count : l.k-iterator.count ≡ length (moves_part l.self.table.now.bytes.now) / 4;
  gathered : Gathered (moves_part l.self.table.now.bytes.now) l.q (LinksAt (meant l.self.table.now) (moves_part l.self.table.now.bytes.now) l.opener l.inside l.closer) l.k-iterator.next l.y;
}
