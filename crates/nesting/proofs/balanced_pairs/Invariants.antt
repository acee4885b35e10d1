use Rattle.std.proofs.Common.{◌-◌}
use Rattle.table.specs.Layout.{parse}
use Rattle.relation.specs.Relations.{IsRelation, size_of}
use Rattle.nesting.proofs.PairSearch.{PairsUnder}
use Rattle.nesting.proofs.balanced_pairs.Given as goal

abbrev pub invariant-loop-s : goal.invariant-loop-s
invariant-loop-s l = IsRelation l.r × PairsUnder (parse l.table) l.r

abbrev pub decreases-loop-s : goal.decreases-loop-s
decreases-loop-s l = 4096 - size_of l.r
