use Rattle.pair_sets.proofs.ByLetter.{ByLetterSoFar}
use Rattle.table.specs.Layout.{moves_part}
use Rattle.pair_sets.proofs.by_letter.Given as goal

abbrev pub invariant-loop-from : goal.invariant-loop-from
invariant-loop-from l = ByLetterSoFar (moves_part l.table) l.from-index l.rows
