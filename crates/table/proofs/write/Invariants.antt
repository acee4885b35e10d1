-- The bytes that the loop has come by are the table's.
use Rattle.std.proofs.Common.{ℕ, get_or, ◌<◌, ◌≡◌}
use Rattle.table.proofs.write.Given as goal

abbrev pub invariant-loop-i : goal.invariant-loop-i
invariant-loop-i l = (k : ℕ) → k < l.i → get_or l.byte-items k 0 ≡ get_or l.table k 0
