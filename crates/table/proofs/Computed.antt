-- The size of the largest table and the worked tables' bytes, computed; and a writer that does nothing, refuted on them.
use Prim.Native.Nat.{ℕ}
use mathlib.Core.List.{List}
use mathlib.Core.Path.{◌≡◌, refl, ap}
use native.Mathlib.Omega.{arith}
use lib.ListN.{get_or, replicate}
use borrow.Author.Tests.{eq-eqb}
use Rattle.vpa.specs.WorkedTable.{worked, worked_trimmed}
use Rattle.table.specs.Bytes.{all?}
use Rattle.table.specs.Calls.{write_out}
use Rattle.table.specs.Layout.{entries, parse, most_bytes}
use Rattle.table.specs.Refusals.{whole?, version?, small?, sized?, capped?, lists?, mark_bound, in_range?, rises?, moves?, head_rungs, verdict}
use Rattle.table.specs.WorkedBytes.{worked_bytes, worked_trimmed_bytes}

pub largest_size : most_bytes ≡ 4200
largest_size = refl

pub worked_good : verdict worked_bytes ≡ 0
unfolding worked_bytes whole? version? small? sized? capped? lists? mark_bound in_range? rises? moves? head_rungs verdict all?
worked_good = refl

pub worked_trimmed_good : verdict worked_trimmed_bytes ≡ 0
unfolding worked_trimmed_bytes whole? version? small? sized? capped? lists? mark_bound in_range? rises? moves? head_rungs verdict all?
worked_trimmed_good = refl

pub worked_parsed : parse worked_bytes ≡ worked
unfolding worked_bytes parse entries
worked_parsed = refl

pub worked_trimmed_parsed : parse worked_trimmed_bytes ≡ worked_trimmed
unfolding worked_trimmed_bytes parse entries
worked_trimmed_parsed = refl

-- A write's contract is not met by one that leaves the output as it was.
pub idle_writer_fails : ((s out : List ℕ) → write_out s out ≡ out) → ⊥
unfolding worked_bytes
idle_writer_fails h =
    let e : ◌≡◌ {A = ℕ} 0x22 0 = ap (λ l. get_or l 1 0) (rw (eq-eqb _ _ worked_good) at (h worked_bytes (replicate 36 0))) in
    omega arith
