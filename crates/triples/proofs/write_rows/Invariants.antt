-- The rows of the digits that have come are laid down.
use Rattle.relation.specs.Digits.{ones_of}
use Rattle.triples.proofs.Rows.{WrittenSoFar}
use Rattle.triples.proofs.write_rows.Given as goal

abbrev pub invariant-loop-k : goal.invariant-loop-k
invariant-loop-k l = WrittenSoFar l.count l.x l.y l.z l.fn.last l.fn.scratch l.yielded (ones_of l.k-iterator.0) l.at l.scratch
