use Rattle.std.proofs.Common.{rules}
use Rattle.relation.proofs.OnesListed.{come_none, come_more, come_next, come_all, from_none, from_more, from_all}
use Rattle.pair_sets.proofs.Moves.closed.Goals as goal

pub loop-p-init : goal.loop-p-init
loop-p-init c = (come_none (search rules), from_none)

pub led-y-requires : goal.led-y-requires
led-y-requires c = (come_next c.loop-p.invariant.0 c.in-Some.ensures.steps).0

pub loop-p-preserved : goal.loop-p-preserved
loop-p-preserved c = (come_more c.loop-p.invariant.0 c.in-Some.ensures.steps, from_more c.loop-p.invariant.1 c.led-y.ensures)

pub returns : goal.returns
returns c =
    let all = from_all c.ranges.x.fits (rw (come_all c.loop-p.invariant.0 c.in-None.ensures.steps.0) at c.loop-p.invariant.1) in
    record { at = λ s. (λ e. (let w = (all s).0 e in record { by = w.0; among = w.1; closed = w.2 }), λ w. (all s).1 (w.by, w.among, w.closed)) }
