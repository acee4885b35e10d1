-- The marks over one mark more; what `list_marks_of` asks for, the marks before keep.
use Rattle.std.proofs.Common.{arith}
use Rattle.table.proofs.Tables.{good_storable}
use Rattle.triples.proofs.Laying.{appended_low, appended_long}
use Rattle.triples.proofs.Marks.{marks_none, marks_more, marks_all}
use Rattle.triples.proofs.list_marks.Goals as goal

pub loop-mark-init : goal.loop-mark-init
loop-mark-init c = marks_none _ _

pub list_marks_of-ways-requires-clause-mark_bound : goal.list_marks_of-ways-requires-clause-mark_bound
list_marks_of-ways-requires-clause-mark_bound c =
    let table = c.args.table.now in
    let few = (good_storable _ table.good).marks in
    (omega (arith, table.marks), omega (arith, appended_long c.loop-mark.invariant.listed, c.requires.scratch_bound))

pub list_marks_of-ways-requires-clause-count_bound : goal.list_marks_of-ways-requires-clause-count_bound
list_marks_of-ways-requires-clause-count_bound c = appended_low c.loop-mark.invariant.listed

pub loop-mark-preserved : goal.loop-mark-preserved
loop-mark-preserved c = let r = c.list_marks_of-ways.ensures in marks_more _ c.loop-mark.invariant r.appended r.more_ways

pub returns-clause-appended : goal.returns-clause-appended
returns-clause-appended c = let m = marks_all _ (omega (arith, c.args.table.now.marks)) c.loop-mark.invariant in m.0

pub returns-clause-ways_of : goal.returns-clause-ways_of
returns-clause-ways_of c = let m = marks_all _ (omega (arith, c.args.table.now.marks)) c.loop-mark.invariant in m.1
