use Rattle.std.proofs.Common.{arith}
use Rattle.table.proofs.CheckedCounts.{few_states}
use Rattle.shortest.proofs.Walks.{walk_depth, walk_low, closes, far, via_deep, via_plain, via_nest, wrote_close, wrote_plain, wrote_open}
use Rattle.shortest.proofs.write_letter.Goals as goal

pub close_level-requires-clause-depth_nonzero : goal.close_level-requires-clause-depth_nonzero
close_level-requires-clause-depth_nonzero c =
    let w = c.requires.least.1 in
    let k = closes _ c.args.links.table.now.good _ c.requires.least.0 w c.if-walk.true in
    (k.deep, (omega (arith, walk_depth w, c.requires.room.0), (w.room, w.some)))

pub close_level-requires-clause-depth_bound : goal.close_level-requires-clause-depth_bound
close_level-requires-clause-depth_bound c = (closes _ c.args.links.table.now.good _ c.requires.least.0 c.requires.least.1 c.if-walk.true).letter

pub returns-then-walk : goal.returns-then-walk
returns-then-walk c =
    let e = c.close_level.ensures in
    wrote_close _ c.args.links.table.now.good _ c.requires.least.0 c.requires.least.1 c.if-walk.true e.out_after e.value

pub nearest_via-via-requires-clause-states_bound : goal.nearest_via-via-requires-clause-states_bound
nearest_via-via-requires-clause-states_bound c =
    let t = c.args.links.table.now in
    let w = c.requires.least.1 in
    (few_states t, ((walk_low _ t.good _ c.requires.least.0 w).0, (omega (arith, t.states, w.walking.goal_low), omega (arith, c.requires.room.0))))

pub nearest_via-via-requires-clause-q_nonzero : goal.nearest_via-via-requires-clause-q_nonzero
nearest_via-via-requires-clause-q_nonzero c =
    let w = c.requires.least.1 in
    let least = c.requires.least.0 in
    (far _ c.args.links.table.now.good _ least w c.if-walk.false, least.closed.same _ w.walking.goal_low)

pub length_at-moves-requires : goal.length_at-moves-requires
length_at-moves-requires c =
    let t = c.args.links.table.now in
    ((walk_low _ t.good _ c.requires.least.0 c.requires.least.1).0, (omega (arith, c.nearest_via-via.ensures.low, few_states t), omega (arith, c.requires.room.0)))

pub step_to-requires-clause-low : goal.step_to-requires-clause-low
step_to-requires-clause-low c =
    let w = c.requires.least.1 in
    ((walk_low _ c.args.links.table.now.good _ c.requires.least.0 w).0, (w.room, w.some))

pub step_to-requires-clause-some_plain : goal.step_to-requires-clause-some_plain
step_to-requires-clause-some_plain c =
    let t = c.args.links.table.now in
    via_plain _ t.good _ c.requires.least.0 c.requires.least.1 t.states c.nearest_via-via.ensures c.length_at-moves.ensures.0 c.if-moves-eq1.true

pub open_level-requires-clause-low : goal.open_level-requires-clause-low
open_level-requires-clause-low c =
    let t = c.args.links.table.now in
    let w = c.requires.least.1 in
    let low = walk_low _ t.good _ c.requires.least.0 w in
    (low.0, (low.1, (omega (arith, c.nearest_via-via.ensures.low, few_states t), (w.room, w.some))))

pub open_level-requires-clause-depth_bound : goal.open_level-requires-clause-depth_bound
open_level-requires-clause-depth_bound c =
    let t = c.args.links.table.now in
    (via_deep _ t.good _ c.requires.least.0 c.requires.least.1 t.states c.nearest_via-via.ensures c.length_at-moves.ensures.0, c.requires.room)

pub open_level-requires-clause-some_nest : goal.open_level-requires-clause-some_nest
open_level-requires-clause-some_nest c =
    let t = c.args.links.table.now in
    via_nest _ t.good _ c.requires.least.0 c.requires.least.1 t.states c.nearest_via-via.ensures c.length_at-moves.ensures.0 c.if-moves-eq1.false

pub returns-then-moves-eq1 : goal.returns-then-moves-eq1
returns-then-moves-eq1 c =
    let t = c.args.links.table.now in
    wrote_plain _ t.good _ c.requires.least.0 c.requires.least.1 t.states c.nearest_via-via.ensures c.length_at-moves.ensures.0 c.if-moves-eq1.true
    c.step_to.ensures.wrote_plain c.step_to.ensures.value

pub returns-else-moves-eq1 : goal.returns-else-moves-eq1
returns-else-moves-eq1 c =
    let t = c.args.links.table.now in
    wrote_open _ t.good _ c.requires.least.0 c.requires.least.1 t.states c.nearest_via-via.ensures c.length_at-moves.ensures.0
    c.requires.room.0 c.open_level.ensures
