-- The numbers that are copied stand in scratch.
use Rattle.std.proofs.Common.{arith, ◌*◌}
use Rattle.std.proofs.lemmas.List.{length-take}
use Rattle.trim.proofs.write_moves.Goals as goal

pub slice_bounds-numbers-end : goal.slice_bounds-numbers-end
slice_bounds-numbers-end c = omega (arith, c.requires.0, length-take (4 * c.args.moves) c.args.scratch.now)
