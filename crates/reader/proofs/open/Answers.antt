use Rattle.std.proofs.Common.{arith, refl, suc, ◌+◌, length-set}
use Rattle.relation.proofs.Owned.{owned}
use Rattle.reader.proofs.Numbers.{deepest_is, state_size_lem, block_place_lem}
use Rattle.reader.proofs.LentRows.{lent_rows}
use Rattle.reader.proofs.StepParts.{opens_none, opens_some, written_at, written_block}
use Rattle.reader.proofs.open.Goals as goal

pub returns-then-reached-eq0 : goal.returns-then-reached-eq0
returns-then-reached-eq0 c =
    opens_none c.requires.state_size_in_bounds.1.0 (rw (lent_rows c.args.state.now c.args.head.depth c.place-top.ensures.0) at c.together-halves.ensures) c.joined_row-reached.ensures
    (omega (arith, c.if-reached-eq0.true)) c.stop.ensures

pub store-requires : goal.store-requires
store-requires c =
    (rw length-set (omega (arith, state_size_lem, deepest_is, block_place_lem (c.args.head.depth + 1), c.place-next.ensures.0)), owned _ _ c.diagonal.type_inv)

pub returns : goal.returns
returns c =
    let d = c.args.head.depth in
    opens_some c.requires.state_size_in_bounds.1.0 (rw (lent_rows c.args.state.now d c.place-top.ensures.0) at c.together-halves.ensures) c.joined_row-reached.ensures
    c.if-reached-eq0.false (owned _ _ c.diagonal.type_inv) c.diagonal.ensures
    (written_at (omega (arith, c.place-next.ensures.0, block_place_lem (d + 1), block_place_lem (suc d))) refl
    (written_block c.diagonal.result (omega (arith, state_size_lem, deepest_is, block_place_lem (d + 1), c.place-next.ensures.0)) c.store.ensures)) c.«open».ensures
