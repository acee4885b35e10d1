-- A wrong program that no small change of the code gives: one that never finds a pair.
use Prim.Native.Nat.{ℕ, ◌≤◌, ◌<◌}
use mathlib.Core.List.{List}
use mathlib.Core.Path.{◌≡◌, subst}
use native.Mathlib.Omega.{arith}
use lib.ListN.{length, replicate, length-replicate}
use Rattle.vpa.specs.PairsLevelsTrimmed.{same}
use Rattle.vpa.specs.TableOnDisk.{state_count}
use Rattle.vpa.specs.WorkedTable.{worked}
use Rattle.table.specs.Layout.{parse}
use Rattle.table.specs.WorkedBytes.{worked_bytes}
use Rattle.table.proofs.Computed.{worked_good, worked_parsed}
use Rattle.relation.specs.Relations.{Holds}
use Rattle.relation.proofs.Relations.{zeros_hold}
use Rattle.nesting.specs.Calls.{nesting_pairs}
use Rattle.nesting.specs.Scratch.{scratch_size}
use Rattle.nesting.proofs.CallLaws.{nesting_pairs_iff}

-- State 0 of the worked table is balanced with itself, so zeros are not its pairs.
pub always_empty_fails : ((s scratch : List ℕ) → nesting_pairs s scratch ≡ replicate 64 0) → ⊥
always_empty_fails always =
    let scratch : List ℕ = replicate scratch_size 0 in
    let long : scratch_size ≤ length {A = ℕ} (replicate scratch_size 0) = omega (arith, length-replicate {A = ℕ} scratch_size 0) in
    let low : 0 < state_count (parse worked_bytes) = rw worked_parsed four in
    let held : Holds (nesting_pairs worked_bytes scratch) 0 0 = (nesting_pairs_iff worked_bytes scratch worked_good long 0 0).1 (low, same) in
    elim ((zeros_hold.at 0 0).0 (subst (λ r. Holds r 0 0) (always worked_bytes scratch) held)) [ ]
  where
    four : 0 < state_count worked
    four = omega arith
