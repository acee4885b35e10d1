use Rattle.std.proofs.Common.{rules, arith}
use Rattle.relation.proofs.Digits.{lowest}
use Rattle.relation.proofs.OnesListed.{come_none, come_more, come_next}
use Rattle.lengths.proofs.soonest_in.Goals as goal

pub loop-q-init : goal.loop-q-init
loop-q-init c =
    let some = c.requires.1.1 in
    let first = lowest 64 c.args.row (omega arith) c.ranges.row.fits in
    record { come = come_none (search rules); low = first.low; set = first.set }

pub length_at-requires : goal.length_at-requires
length_at-requires c = (c.requires.0, ((come_next c.loop-q.invariant.come c.in-Some.ensures.steps).0, c.requires.1.0))

pub loop-q-preserved-then-length_at : goal.loop-q-preserved-then-length_at
loop-q-preserved-then-length_at c =
    let q = come_next c.loop-q.invariant.come c.in-Some.ensures.steps in
    record { come = come_more c.loop-q.invariant.come c.in-Some.ensures.steps; low = q.0; set = q.1 }
