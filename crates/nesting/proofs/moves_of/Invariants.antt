use Rattle.table.specs.Answers.{kind_meant}
use Rattle.table.specs.Layout.{parse, moves_part}
use Rattle.nesting.proofs.MovesFound.{MovesSoFar}
use Rattle.nesting.proofs.moves_of.Given as goal

abbrev pub invariant-loop-from : goal.invariant-loop-from
invariant-loop-from l = MovesSoFar (parse l.table) (kind_meant l.kind) l.mark (moves_part l.table) l.from-index l.r
