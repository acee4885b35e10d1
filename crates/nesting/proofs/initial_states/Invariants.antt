use Rattle.table.specs.Layout.{parse}
use Rattle.nesting.specs.Steps.{InitialBelow}
use Rattle.nesting.proofs.initial_states.Given as goal

abbrev pub invariant-loop-o : goal.invariant-loop-o
invariant-loop-o l = InitialBelow (parse l.table) l.o l.x
