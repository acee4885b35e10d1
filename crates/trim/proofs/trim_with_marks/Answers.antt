-- Where the moves are too many, where the output is too short, and where all is written.
use Rattle.std.proofs.Common.{arith, sym, ◌∙◌}
use Rattle.vpa.proofs.TrimmedTable.{trimmed_marks}
use Rattle.table.proofs.Tables.{good_storable}
use Rattle.nesting.proofs.Cleared.{scratch_size_lem}
use Rattle.triples.proofs.Laying.{appended_long}
use Rattle.trim.proofs.Stages.{states_low, marks_low, many_moves, listed_in, no_room, all_written}
use Rattle.trim.proofs.trim_with_marks.Goals as goal

pub plan_of-plan-requires-clause-low : goal.plan_of-plan-requires-clause-low
plan_of-plan-requires-clause-low c = states_low _ c.args.table.now.good c.requires.columns

pub plan_of-plan-requires-clause-low_2 : goal.plan_of-plan-requires-clause-low_2
plan_of-plan-requires-clause-low_2 c = marks_low _ c.args.table.now.good c.requires.columns_2

pub list_moves-moves-requires-clause-plan_of : goal.list_moves-moves-requires-clause-plan_of
list_moves-moves-requires-clause-plan_of c = let p = c.requires in c.plan_of-plan.ensures.of _ p.columns p.columns_2 p.ways_of

pub returns-then-moves-gt-MOVES-clause-result_value : goal.returns-then-moves-gt-MOVES-clause-result_value
returns-then-moves-gt-MOVES-clause-result_value c = (many_moves _ _ c.list_moves-moves.ensures c.if-moves-gt-MOVES.true).0

pub returns-then-moves-gt-MOVES-clause-out_after : goal.returns-then-moves-gt-MOVES-clause-out_after
returns-then-moves-gt-MOVES-clause-out_after c = (many_moves _ _ c.list_moves-moves.ensures c.if-moves-gt-MOVES.true).1

pub overflow_add-size : goal.overflow_add-size
overflow_add-size c = let table = c.args.table.now in omega (arith, table.letters, (good_storable _ table.good).letters)

pub overflow_add-size-2 : goal.overflow_add-size-2
overflow_add-size-2 c = let table = c.args.table.now in omega (arith, table.letters, (good_storable _ table.good).letters, c.requires.columns.most)

pub overflow_add-size-3 : goal.overflow_add-size-3
overflow_add-size-3 c = let table = c.args.table.now in omega (arith, table.letters, (good_storable _ table.good).letters, c.requires.columns.most)

pub returns-then-out-size-clause-result_value : goal.returns-then-out-size-clause-result_value
returns-then-out-size-clause-result_value c =
    let p = c.requires in
    let h = c.list_moves-moves.ensures in
    let listed = listed_in h c.if-moves-gt-MOVES.false (omega (arith, scratch_size_lem, p.scratch_bound, appended_long h)) in
    (no_room _ c.args.table.now.good _ p.columns c.args.table.now.letters p.columns_2.count p.columns_2.most listed c.if-out-size.true).0

pub returns-then-out-size-clause-out_after : goal.returns-then-out-size-clause-out_after
returns-then-out-size-clause-out_after c =
    let p = c.requires in
    let h = c.list_moves-moves.ensures in
    let listed = listed_in h c.if-moves-gt-MOVES.false (omega (arith, scratch_size_lem, p.scratch_bound, appended_long h)) in
    (no_room _ c.args.table.now.good _ p.columns c.args.table.now.letters p.columns_2.count p.columns_2.most listed c.if-out-size.true).1

pub write_table-requires-clause-marks_value : goal.write_table-requires-clause-marks_value
write_table-requires-clause-marks_value c = let p = c.requires.columns_2 in (p.count ∙ sym (trimmed_marks _), p.most)

pub write_table-requires-clause-listed_in : goal.write_table-requires-clause-listed_in
write_table-requires-clause-listed_in c =
    let h = c.list_moves-moves.ensures in
    listed_in h c.if-moves-gt-MOVES.false (omega (arith, scratch_size_lem, c.requires.scratch_bound, appended_long h))

pub returns-clause-result_value : goal.returns-clause-result_value
returns-clause-result_value c =
    let p = c.requires in
    let h = c.list_moves-moves.ensures in
    let listed = listed_in h c.if-moves-gt-MOVES.false (omega (arith, scratch_size_lem, p.scratch_bound, appended_long h)) in
    (all_written _ c.args.table.now.good _ p.columns c.args.table.now.letters p.columns_2.count p.columns_2.most listed c.if-out-size.false c.write_table.ensures).0

pub returns-clause-out_after : goal.returns-clause-out_after
returns-clause-out_after c =
    let p = c.requires in
    let h = c.list_moves-moves.ensures in
    let listed = listed_in h c.if-moves-gt-MOVES.false (omega (arith, scratch_size_lem, p.scratch_bound, appended_long h)) in
    (all_written _ c.args.table.now.good _ p.columns c.args.table.now.letters p.columns_2.count p.columns_2.most listed c.if-out-size.false c.write_table.ensures).1
