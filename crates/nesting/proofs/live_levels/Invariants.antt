use Rattle.std.proofs.Common.{◌-◌}
use Rattle.table.specs.Layout.{parse}
use Rattle.relation.specs.Relations.{IsRelation, size_of}
use Rattle.nesting.proofs.LevelSearch.{LevelsUnder}
use Rattle.nesting.proofs.live_levels.Given as goal

abbrev pub invariant-loop-balanced : goal.invariant-loop-balanced
invariant-loop-balanced l = IsRelation l.live × LevelsUnder (parse l.table) l.back l.live

abbrev pub decreases-loop-balanced : goal.decreases-loop-balanced
decreases-loop-balanced l = 4096 - size_of l.live
