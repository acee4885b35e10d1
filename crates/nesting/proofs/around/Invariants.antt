use Rattle.table.specs.Answers.{kind_meant}
use Rattle.table.specs.Layout.{parse}
use Rattle.relation.specs.Relations.{HoldsExactly}
use Rattle.nesting.specs.Steps.{Around}
use Rattle.nesting.proofs.around.Given as goal

abbrev pub invariant-loop-mark : goal.invariant-loop-mark
invariant-loop-mark l = HoldsExactly l.s (Around (parse l.table) (kind_meant l.first) (kind_meant l.last) l.r l.mark)
