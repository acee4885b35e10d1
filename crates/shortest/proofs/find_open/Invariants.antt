use Rattle.table.specs.Layout.{moves_part}
use Rattle.table.specs.Meaning.{meant}
use Rattle.lengths.specs.Steps.{length_in}
use Rattle.shortest.specs.Steps.{OpenFor}
use Rattle.shortest.proofs.Finding.{Searching}
use Rattle.shortest.proofs.find_open.Given as goal

abbrev pub invariant-loop-k : goal.invariant-loop-k
invariant-loop-k l =
    let part = moves_part l.links.table.now.bytes.now in
    Searching part 0 l.p (λ k. OpenFor (meant l.links.table.now) part (length_in l.scratch) l.p l.fn.j l.moves k → ⊥) l.k-iterator.chain.now l.k-iterator.count
    l.k-iterator.next
