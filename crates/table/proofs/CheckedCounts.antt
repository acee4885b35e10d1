-- What the counts of a table that was checked are known to be.
use Prim.Native.Nat.{◌≤◌}
use native.Mathlib.Omega.{arith}
use Rattle.table.specs.declared.checked.Checked.{Checked}
use Rattle.table.proofs.Tables.{good_storable}

-- It has no more states than a row has digits.
pub few_states : (table : Checked) → table.counts.states ≤ 64
few_states table = omega (arith, table.states, (good_storable _ table.good).states)
