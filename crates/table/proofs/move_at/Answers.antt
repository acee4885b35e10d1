use Prim.Native.Nat.{◌/◌, ◌<◌, ◌≤◌}
use native.Mathlib.Omega.{arith}
use borrow.Author.Tests.{lt-ltb, le-ltb}
use lib.ListN.{length}
use Rattle.table.proofs.Entries.{entry_at}
use Rattle.table.proofs.Quads.{quad_move}
use Rattle.table.proofs.move_at.Goals as goal

pub returns-in_err-from : goal.returns-in_err-from
returns-in_err-from c =
    let past : length c.args.part.now / 4 ≤ c.args.k = omega (arith, c.in_err-from.ensures.lookup, c.as_chunks.ensures.front_len) in
    rw (c.from_residual.ensures, entry_at, le-ltb _ _ past)

pub returns : goal.returns
returns c =
    let h = c.in_ok-from.ensures.lookup in
    let g = c.as_chunks.ensures in
    let there : c.args.k < length c.args.part.now / 4 = omega (arith, h, g.front_len) in
    rw (entry_at, lt-ltb _ _ there, h.1, g.front, quad_move c.args.part.now c.args.k _ there)
