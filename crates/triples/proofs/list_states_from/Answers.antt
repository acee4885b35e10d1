-- The rows of one end more are appended; what `append` asks for, the appended rows before keep.
use Rattle.std.proofs.Common.{rules, arith}
use Rattle.triples.proofs.Laying.{appended_low, appended_long}
use Rattle.triples.proofs.Rows.{walk_none, walk_more, walk_low, walk_all}
use Rattle.triples.proofs.list_states_from.Goals as goal

pub loop-q-init : goal.loop-q-init
loop-q-init c = walk_none _ (search rules) (omega arith)

pub offset_bounds-back-q : goal.offset_bounds-back-q
offset_bounds-back-q c = omega (arith, walk_low c.loop-q.invariant c.in-Some.ensures.steps)

pub bounds-back-q : goal.bounds-back-q
bounds-back-q c = walk_low c.loop-q.invariant c.in-Some.ensures.steps

pub append-total-requires : goal.append-total-requires
append-total-requires c =
    let h = c.loop-q.invariant.appended in
    let low = walk_low c.loop-q.invariant c.in-Some.ensures.steps in
    record { most_bound = (omega arith, (appended_low h, omega (arith, appended_long h))); x_bound = (omega arith, (omega arith, omega arith)) }

pub loop-q-preserved : goal.loop-q-preserved
loop-q-preserved c = walk_more c.loop-q.invariant c.in-Some.ensures.steps c.append-total.ensures

pub returns : goal.returns
returns c = walk_all c.loop-q.invariant c.in-None.ensures.steps.0
