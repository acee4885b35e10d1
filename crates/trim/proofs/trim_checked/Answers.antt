-- Where the states are too many, and what is read back where they are not.
use Rattle.std.proofs.Common.{arith}
use Rattle.triples.proofs.Rows.{column_trios}
use Rattle.trim.proofs.Stages.{states_listed, many_states}
use Rattle.trim.proofs.trim_checked.Goals as goal

pub returns-then-too_many-clause-result_value : goal.returns-then-too_many-clause-result_value
returns-then-too_many-clause-result_value c =
    let listed = states_listed _ c.args.table.now.good c.balanced_pairs-balanced.ensures c.live_levels-live.ensures c.list_states-count.ensures in
    (many_states _ _ listed (omega (arith, c.if-too_many.true))).0

pub returns-then-too_many-clause-out_after : goal.returns-then-too_many-clause-out_after
returns-then-too_many-clause-out_after c =
    let listed = states_listed _ c.args.table.now.good c.balanced_pairs-balanced.ensures c.live_levels-live.ensures c.list_states-count.ensures in
    (many_states _ _ listed (omega (arith, c.if-too_many.true))).1

pub trim_with_states-requires-clause-columns : goal.trim_with_states-requires-clause-columns
trim_with_states-requires-clause-columns c =
    let listed = states_listed _ c.args.table.now.good c.balanced_pairs-balanced.ensures c.live_levels-live.ensures c.list_states-count.ensures in
    column_trios _ listed (omega (arith, c.if-too_many.false)) c.read_back-states.ensures
