use Rattle.relation.specs.Digits.{ones_of}
use Rattle.relation.proofs.OnesListed.{Come}
use Rattle.relation.proofs.Walks.{SpreadBy}
use Rattle.relation.proofs.spread.Given as goal

abbrev pub invariant-loop-k : goal.invariant-loop-k
invariant-loop-k l = Come l.x l.yielded (ones_of l.k-iterator.0) × SpreadBy l.fn.t l.yielded l.j l.t
