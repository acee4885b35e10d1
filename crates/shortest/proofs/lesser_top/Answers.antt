use Rattle.std.proofs.Common.{arith}
use Rattle.table.proofs.CheckedCounts.{few_states}
use Rattle.shortest.proofs.Tops.{lesser_here, lesser_past}
use Rattle.shortest.proofs.lesser_top.Goals as goal
use Rattle.shortest.proofs.lesser_top.Goals.{then-nearer-is_final, else-nearer-is_final}

pub length_at-moves-requires : goal.length_at-moves-requires
length_at-moves-requires c = (c.requires.0, (omega (arith, few_states c.args.table.now), c.requires.1))

pub loop-f-preserved : goal.loop-f-preserved
loop-f-preserved c =
    let h = c.loop-f.invariant in
    let v = c.length_at-moves.ensures.0 in
    let m = c.held_at.ensures in
    let g = c.is_final.ensures in
    elim c.if-nearer-is_final.branch [
      | then-nearer-is_final w ↦ rw w.top-is (lesser_here h v m g w.if-nearer-is_final.true)
      | else-nearer-is_final w ↦ rw w.top-is (lesser_past h v m g w.if-nearer-is_final.false)
    ]
