use Rattle.std.proofs.Common.{ℕ}
use Rattle.table.specs.Layout.{moves_part}
use Rattle.table.specs.Meaning.{meant}
use Rattle.lengths.specs.Steps.{length_in}
use Rattle.shortest.specs.Steps.{NestAt}
use Rattle.shortest.proofs.Finding.{Searching}
use Rattle.shortest.proofs.find_nest.Given as goal

abbrev pub invariant-loop-j : goal.invariant-loop-j
invariant-loop-j l =
    Searching (moves_part l.links.table.now.bytes.now) 3 l.r
    (λ j. (k : ℕ) → NestAt (meant l.links.table.now) (moves_part l.links.table.now.bytes.now) (length_in l.scratch) l.p l.r l.moves k j → ⊥) l.j-iterator.chain.now
    l.j-iterator.count l.j-iterator.next
