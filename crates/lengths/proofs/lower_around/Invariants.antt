use Rattle.std.proofs.Common.{◌≡◌, ◌/◌, length}
use Rattle.table.specs.Layout.{moves_part}
use Rattle.table.specs.Meaning.{meant}
use Rattle.lengths.specs.Steps.{Chained}
use Rattle.lengths.proofs.LowerAround.{AroundSoFar}
use Rattle.lengths.proofs.lower_around.Given as goal

abbrev pub invariant-loop-k : goal.invariant-loop-k
invariant-loop-k l = let part = moves_part l.links.table.now.bytes.now in record {
  chained : Chained part 3 l.k-iterator.chain.now;
  count : l.k-iterator.count ≡ length part / 4;
  around : AroundSoFar (meant l.links.table.now) part l.p l.q l.moves l.fn.scratch l.fn.queue.due l.scratch l.queue.due l.k-iterator.next;
}
