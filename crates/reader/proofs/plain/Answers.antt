use Rattle.std.proofs.Common.{arith, refl}
use Rattle.relation.proofs.Owned.{owned}
use Rattle.reader.proofs.Numbers.{deepest_is, state_size_lem, block_place_lem}
use Rattle.reader.proofs.LentRows.{lent_rows}
use Rattle.reader.proofs.StepParts.{settles_none, settles, written_at}
use Rattle.reader.proofs.plain.Goals as goal

pub join_lent-pairs-requires : goal.join_lent-pairs-requires
join_lent-pairs-requires c =
    let p = c.requires in
    rw (lent_rows c.args.state.now c.args.head.depth c.place-top.ensures.0) (p.states_bound.0, (p.state_size_in_bounds.1.0, omega arith))

pub returns-then-is_empty : goal.returns-then-is_empty
returns-then-is_empty c =
    settles_none (rw (lent_rows c.args.state.now c.args.head.depth c.place-top.ensures.0) at c.join_lent-pairs.ensures) c.is_empty.ensures c.if-is_empty.true c.stop.ensures

pub store-requires : goal.store-requires
store-requires c = (omega (arith, block_place_lem c.args.head.depth, deepest_is, state_size_lem), owned _ _ c.join_lent-pairs.type_inv)

pub returns : goal.returns
returns c =
    settles (rw (lent_rows c.args.state.now c.args.head.depth c.place-top.ensures.0) at c.join_lent-pairs.ensures) c.is_empty.ensures c.if-is_empty.false (owned _ _ c.join_lent-pairs.type_inv)
    (written_at (omega (arith, c.place-top.ensures.0)) refl c.store.ensures) c.plain.ensures
