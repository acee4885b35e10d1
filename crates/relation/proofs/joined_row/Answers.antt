use Rattle.std.proofs.Common.{rules, arith}
use Rattle.relation.proofs.OnesListed.{come_none, come_more, come_next, come_all, from_none, from_more, reached_from}
use Rattle.relation.proofs.Walks.{row_digits}
use Rattle.relation.proofs.joined_row.Goals as goal

pub loop-k-init : goal.loop-k-init
loop-k-init c = (come_none (search rules), from_none)

pub offset_bounds-s-k : goal.offset_bounds-s-k
offset_bounds-s-k c = let low = come_next c.loop-k.invariant.0 c.in-Some.ensures.steps in omega (arith, low.0)

pub bounds-s-k : goal.bounds-s-k
bounds-s-k c = let low = come_next c.loop-k.invariant.0 c.in-Some.ensures.steps in omega (arith, low.0)

pub loop-k-preserved : goal.loop-k-preserved
loop-k-preserved c = (come_more c.loop-k.invariant.0 c.in-Some.ensures.steps, from_more c.loop-k.invariant.1 (row_digits _ _))

pub returns : goal.returns
returns c = reached_from c.ranges.x.fits (rw (come_all c.loop-k.invariant.0 c.in-None.ensures.steps.0) at c.loop-k.invariant.1)
