use Rattle.table.specs.Layout.{parse}
use Rattle.relation.proofs.Relations.{Built}
use Rattle.nesting.specs.Steps.{TopBack}
use Rattle.nesting.proofs.top_levels.Given as goal

abbrev pub invariant-loop-q : goal.invariant-loop-q
invariant-loop-q l = Built (TopBack (parse l.table) l.fn.back) l.q l.r
