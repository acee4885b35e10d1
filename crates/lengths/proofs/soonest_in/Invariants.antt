use Rattle.std.proofs.Common.{◌≡◌, ◌<◌}
use Rattle.relation.specs.Digits.{bit, ones_of}
use Rattle.relation.proofs.OnesListed.{Come}
use Rattle.lengths.proofs.soonest_in.Given as goal

abbrev pub invariant-loop-q : goal.invariant-loop-q
invariant-loop-q l = record { come : Come l.row l.yielded (ones_of l.q-iterator.0); low : l.best < 64; set : bit l.row l.best ≡ 1 }
