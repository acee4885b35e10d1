use Rattle.std.proofs.Common.{[], refl, ◌∙◌, get_or, ◌+◌, ◌*◌, ◌/◌, ◌-◌, ◌<◌, ◌≤◌, ◌≡◌, length, arith}
use Rattle.table.specs.Bytes.{byte}
use Rattle.table.specs.Layout.{moves_part}
use Rattle.lengths.proofs.Chains.{moves_most, column_low, chained_none, chained_more}
use Rattle.lengths.proofs.Moves.{move_byte}
use Rattle.lengths.proofs.chain.Goals as goal
use Rattle.lengths.proofs.chain.Goals.{In-loop-k}

count : (c : In-loop-k) → length c.as_chunks.result.0.now ≡ length (moves_part c.args.table.now) / 4
count c = rw (← c.checked_moves.ensures) c.as_chunks.ensures.front_len

most : (c : In-loop-k) → length c.as_chunks.result.0.now ≤ 1024
most c = omega (arith, count c, moves_most _ c.requires.0 {part = moves_part c.args.table.now} refl)

column : (c : In-loop-k) → c.args.column ≤ 3
column c = (column_low _ c.requires.0 {part = moves_part c.args.table.now} refl c.requires.1).0

here : (c : In-loop-k) → get_or (get_or c.as_chunks.result.0.now (c.loop-k.k - 1) []) c.args.column 0 ≡ byte (moves_part c.args.table.now) (4 * (c.loop-k.k - 1) + c.args.column)
here c = move_byte c.checked_moves.ensures c.as_chunks.ensures.front c.as_chunks.ensures.front_len _ _ (omega arith) (column c)

low : (c : In-loop-k) → byte (moves_part c.args.table.now) (4 * (c.loop-k.k - 1) + c.args.column) < 64
low c = (column_low _ c.requires.0 refl c.requires.1).1 (c.loop-k.k - 1) (omega (arith, count c))

pub loop-k-init : goal.loop-k-init
loop-k-init c =
    let e = rw c.checked_moves.ensures at c.as_chunks.ensures.front_len in
    rw e (chained_none _ _ (moves_most _ c.requires.0 refl))

pub bounds-r-k : goal.bounds-r-k
bounds-r-k c = omega (arith, most (goal.at.bounds-r-k c).In-loop-k)

pub loop-k-preserved : goal.loop-k-preserved
loop-k-preserved c =
    let at = (goal.at.loop-k-preserved c).In-loop-k in
    rw (c.from-x.ensures ∙ here at)
    (chained_more (omega arith) (omega (arith, count at)) (moves_most _ c.requires.0 refl) (low at) c.loop-k.invariant)
