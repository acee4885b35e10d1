use Rattle.table.specs.Meaning.{meant}
use Rattle.relation.specs.Digits.{ones_of}
use Rattle.relation.specs.Relations.{DigitsExactly}
use Rattle.relation.proofs.OnesListed.{Come, FromSome}
use Rattle.pair_sets.specs.Steps.{Leads}
use Rattle.pair_sets.proofs.Moves.closed.Given as goal

abbrev pub invariant-loop-p : goal.invariant-loop-p
invariant-loop-p l = Come l.x l.yielded (ones_of l.p-iterator.0) × DigitsExactly l.y (FromSome l.yielded (λ p s. Leads (meant l.self.table.now) p l.letter l.mark s))
