use Rattle.std.proofs.Common.{arith}
use Rattle.table.proofs.CheckedCounts.{few_states}
use Rattle.shortest.proofs.Tops.{least_here, least_past}
use Rattle.shortest.proofs.least_top.Goals as goal
use Rattle.shortest.proofs.least_top.Goals.{then-is_initial, else-is_initial}

pub lesser_top-top-requires : goal.lesser_top-top-requires
lesser_top-top-requires c = (omega (arith, few_states c.args.table.now), c.requires)

pub loop-i-preserved : goal.loop-i-preserved
loop-i-preserved c =
    let h = c.loop-i.invariant in
    let g = c.is_initial.ensures in
    elim c.if-is_initial.branch [
      | then-is_initial w ↦ rw w.top-is (least_here h g w.if-is_initial.true w.lesser_top-top.ensures)
      | else-is_initial w ↦ rw w.top-is (least_past h g w.if-is_initial.false)
    ]
