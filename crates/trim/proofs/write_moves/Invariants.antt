-- The bytes that the loop has come by are the numbers of scratch.
use Rattle.std.proofs.Common.{ℕ, get_or, take, ◌*◌, ◌<◌, ◌≡◌}
use Rattle.trim.proofs.write_moves.Given as goal

abbrev pub invariant-loop-i : goal.invariant-loop-i
invariant-loop-i l = (k : ℕ) → k < l.i → get_or l.byte-items k 0 ≡ get_or (take (4 * l.moves) l.fn.scratch) k 0
