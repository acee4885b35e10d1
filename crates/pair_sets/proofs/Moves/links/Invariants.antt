use Rattle.table.specs.Meaning.{meant}
use Rattle.relation.specs.Digits.{ones_of}
use Rattle.relation.proofs.OnesListed.{Come}
use Rattle.pair_sets.proofs.Closing.{LinkedRows}
use Rattle.pair_sets.proofs.Moves.links.Given as goal

abbrev pub invariant-loop-q : goal.invariant-loop-q
invariant-loop-q l = Come l.halves l.yielded (ones_of l.q-iterator.0) × LinkedRows (meant l.self.table.now) l.opener l.inside l.closer l.yielded l.rows
