use Rattle.table.specs.Layout.{moves_part}
use Rattle.table.specs.Meaning.{meant}
use Rattle.shortest.specs.Steps.{PlainAt}
use Rattle.shortest.proofs.Finding.{Searching}
use Rattle.shortest.proofs.find_plain.Given as goal

abbrev pub invariant-loop-k : goal.invariant-loop-k
invariant-loop-k l =
    let part = moves_part l.links.table.now.bytes.now in
    Searching part 0 l.p (λ k. PlainAt (meant l.links.table.now) part l.p l.q k → ⊥) l.k-iterator.chain.now l.k-iterator.count l.k-iterator.next
