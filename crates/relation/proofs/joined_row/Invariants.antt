use Rattle.relation.specs.Digits.{ones_of}
use Rattle.relation.specs.Relations.{Holds, DigitsExactly}
use Rattle.relation.proofs.OnesListed.{Come, FromSome}
use Rattle.relation.proofs.joined_row.Given as goal

abbrev pub invariant-loop-k : goal.invariant-loop-k
invariant-loop-k l = Come l.x l.yielded (ones_of l.k-iterator.0) × DigitsExactly l.y (FromSome l.yielded (Holds l.s))
