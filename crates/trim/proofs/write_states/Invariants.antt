-- The bytes that the loop has come by are those of the states.
use Rattle.std.proofs.Common.{ℕ, get_or, ◌<◌, ◌≡◌}
use Rattle.vpa.specs.TrimComputed.{trim_table}
use Rattle.table.specs.Layout.{parse}
use Rattle.trim.proofs.write_states.Given as goal

abbrev pub invariant-loop-i : goal.invariant-loop-i
invariant-loop-i l = (k : ℕ) → k < l.i → get_or l.byte-items k 0 ≡ get_or (trim_table (parse l.table)).state_bytes k 0
