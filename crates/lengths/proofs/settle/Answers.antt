use Rattle.std.proofs.Common.{arith}
use Rattle.table.proofs.CheckedCounts.{few_states}
use Rattle.lengths.proofs.LowerAround.{settled}
use Rattle.lengths.proofs.settle.Goals as goal

pub lower_beside-requires : goal.lower_beside-requires
lower_beside-requires c = let a = c.requires in (few_states c.args.links.table.now, (a.0, (a.1.0, omega arith)))

pub returns : goal.returns
returns c =
    let a = c.requires in
    rw c.length_at-moves.ensures.0 (settled (few_states c.args.links.table.now) a.0 a.1.0 c.lower_beside.ensures.after c.lower_beside.ensures.before c.lower_around.ensures)
