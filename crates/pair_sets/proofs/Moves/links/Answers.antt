use Rattle.std.proofs.Common.{rules, arith}
use Rattle.relation.proofs.OnesListed.{come_none, come_more, come_next, come_all}
use Rattle.pair_sets.proofs.Closing.{rows_none, rows_more, rows_all}
use Rattle.pair_sets.proofs.Moves.links.Goals as goal

pub loop-q-init : goal.loop-q-init
loop-q-init c = (come_none (search rules), rows_none)

pub loop-q-preserved : goal.loop-q-preserved
loop-q-preserved c =
    let low = come_next c.loop-q.invariant.0 c.in-Some.ensures.steps in
    (come_more c.loop-q.invariant.0 c.in-Some.ensures.steps, rows_more low.0 c.linked.ensures c.loop-q.invariant.1)

pub returns : goal.returns
returns c = rows_all c.ranges.halves.fits (rw (come_all c.loop-q.invariant.0 c.in-None.ensures.steps.0) at c.loop-q.invariant.1)

pub linked-requires : goal.linked-requires
linked-requires c = let low = come_next c.loop-q.invariant.0 c.in-Some.ensures.steps in (low.0, c.requires)

pub offset_bounds-rows-q : goal.offset_bounds-rows-q
offset_bounds-rows-q c = let low = come_next c.loop-q.invariant.0 c.in-Some.ensures.steps in omega (arith, low.0)

pub bounds-rows-q : goal.bounds-rows-q
bounds-rows-q c = (come_next c.loop-q.invariant.0 c.in-Some.ensures.steps).0
