use Rattle.table.specs.Meaning.{meant}
use Rattle.relation.specs.Relations.{DigitsExactly}
use Rattle.pair_sets.specs.Steps.{FromInitial}
use Rattle.pair_sets.proofs.from_initial.Given as goal

abbrev pub invariant-loop-i : goal.invariant-loop-i
invariant-loop-i l = DigitsExactly l.x (FromInitial (meant l.table) l.i l.pairs)
