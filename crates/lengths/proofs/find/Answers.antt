use Rattle.std.proofs.Common.{◌≤◌, length, arith}
use Rattle.table.proofs.Tables.{good_storable}
use Rattle.nesting.proofs.Cleared.{kept_then}
use Rattle.table.proofs.CheckedCounts.{few_states}
use Rattle.lengths.proofs.Search.{work_taken, work_lowered, searched_settled, searched_all}
use Rattle.lengths.proofs.find.Goals as goal
use Rattle.lengths.proofs.find.Goals.{At-loop-p}

long : (c : At-loop-p) → 4096 ≤ length c.loop-p.scratch
long c = omega (arith, c.loop-p.invariant.kept.long, c.requires.room)

pub soonest_row-requires : goal.soonest_row-requires
soonest_row-requires c = few_states c.args.table.now

pub take_from-q-requires : goal.take_from-q-requires
take_from-q-requires c =
    let a = (goal.at.take_from-q-requires c).At-loop-p in
    let due = c.soonest_row.ensures.some c.in-Some.p (search) in
    (omega (arith, due.0, few_states c.args.table.now), (long a, due.1))

pub settle-requires : goal.settle-requires
settle-requires c =
    let a = (goal.at.settle-requires c).At-loop-p in
    let due = c.soonest_row.ensures.some c.in-Some.p (search) in
    (omega (arith, due.0, few_states c.args.table.now), (c.take_from-q.ensures.low, long a))

pub loop-p-smaller : goal.loop-p-smaller
loop-p-smaller c =
    let due = c.soonest_row.ensures.some c.in-Some.p (search) in
    omega (arith, work_taken c.take_from-q.ensures c.loop-p.scratch (omega (arith, due.0, few_states c.args.table.now)), work_lowered c.settle.ensures.lowered)

pub loop-p-preserved : goal.loop-p-preserved
loop-p-preserved c =
    let t = c.args.table.now in
    let due = c.soonest_row.ensures.some c.in-Some.p (search) in
    record {
      searched = searched_settled (good_storable _ t.good) t.states due.0 c.loop-p.invariant.searched c.take_from-q.ensures (rw c.new-links.ensures at c.settle.ensures);
      kept = kept_then c.loop-p.invariant.kept c.settle.ensures.lowered.kept;
    }

pub returns : goal.returns
returns c =
    let t = c.args.table.now in
    (searched_all (good_storable _ t.good) t.states (c.soonest_row.ensures.none (search)) c.loop-p.invariant.searched, c.loop-p.invariant.kept)
