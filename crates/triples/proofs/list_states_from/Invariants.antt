-- The rows of the ends that have come are appended.
use Rattle.std.proofs.Common.{get_or}
use Rattle.std.specs.Int.Bits.{bit_and}
use Rattle.relation.specs.Digits.{ones_of}
use Rattle.triples.specs.Listing.{digits_of, rows_with}
use Rattle.triples.proofs.Rows.{WalkedRows}
use Rattle.triples.proofs.list_states_from.Given as goal

abbrev pub invariant-loop-q : goal.invariant-loop-q
invariant-loop-q l =
    WalkedRows 64 (λ q. rows_with 0 l.o q (digits_of (bit_and l.balanced (get_or l.back q 0)))) l.fn.live l.yielded (ones_of l.q-iterator.0) l.fn.scratch l.count l.scratch l.total
