use Rattle.std.proofs.Common.{rules, arith}
use Rattle.relation.proofs.OnesListed.{come_none, come_more, come_next, come_all}
use Rattle.relation.proofs.Walks.{spread_nothing, spread_next, spread_whole}
use Rattle.relation.proofs.spread.Goals as goal

pub loop-k-init : goal.loop-k-init
loop-k-init c = (come_none (search rules), spread_nothing _ c.requires.0)

pub offset_bounds-t-k : goal.offset_bounds-t-k
offset_bounds-t-k c = let low = come_next c.loop-k.invariant.0 c.in-Some.ensures.steps in omega (arith, low.0)

pub bounds-t-k : goal.bounds-t-k
bounds-t-k c = let low = come_next c.loop-k.invariant.0 c.in-Some.ensures.steps in omega (arith, low.0)

pub bounds-t-k-in-loop-k : goal.bounds-t-k-in-loop-k
bounds-t-k-in-loop-k c = let low = come_next c.loop-k.invariant.0 c.in-Some.ensures.steps in omega (arith, low.0)

pub loop-k-preserved : goal.loop-k-preserved
loop-k-preserved c =
    let low = come_next c.loop-k.invariant.0 c.in-Some.ensures.steps in
    (come_more c.loop-k.invariant.0 c.in-Some.ensures.steps, spread_next c.requires.1 low.0 c.loop-k.invariant.1)

pub returns : goal.returns
returns c = spread_whole c.ranges.x.fits (rw (come_all c.loop-k.invariant.0 c.in-None.ensures.steps.0) at c.loop-k.invariant.1)
