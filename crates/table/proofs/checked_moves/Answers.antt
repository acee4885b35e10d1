use native.Mathlib.Omega.{arith}
use Rattle.table.proofs.Passes.{passes, pass_size}
use Rattle.table.proofs.checked_moves.Goals as goal

pub moves_bytes-requires : goal.moves_bytes-requires
moves_bytes-requires c = omega (arith, pass_size (passes c.args.table.now c.requires))
