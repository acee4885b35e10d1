use Rattle.std.proofs.Common.{arith}
use Rattle.table.proofs.Tables.{good_table}
use Rattle.relation.proofs.Owned.{owned}
use Rattle.nesting.proofs.CallLaws.{held_pairs}
use Rattle.nesting.proofs.LevelSearch.{levels_start, levels_more}
use Rattle.nesting.proofs.Rounds.{larger, level_round_keeps, levels_done}
use Rattle.nesting.proofs.live_levels.Goals as goal

pub loop-balanced-init : goal.loop-balanced-init
loop-balanced-init c =
    let p = c.requires in
    (owned _ _ c.top_levels-live.type_inv, levels_start _ (good_table _ p.0) (held_pairs _ p.0 p.1.1) c.transposed-back.ensures c.top_levels-live.ensures)

pub returns-then-size : goal.returns-then-size
returns-then-size c =
    let i = c.loop-balanced.invariant in
    let p = c.requires in
    levels_done _ (good_table _ p.0) (held_pairs _ p.0 p.1.1) c.transposed-back.ensures i.0 (owned _ _ c.levels_round-more.type_inv) i.1 c.levels_round-more.ensures (omega arith)
    (owned _ _ c.transposed.type_inv) c.transposed.ensures

pub loop-balanced-smaller : goal.loop-balanced-smaller
loop-balanced-smaller c = larger (level_round_keeps c.levels_round-more.ensures) (λ e. c.if-size.false (omega arith))

pub loop-balanced-preserved : goal.loop-balanced-preserved
loop-balanced-preserved c =
    let p = c.requires in
    (owned _ _ c.levels_round-more.type_inv, levels_more _ (good_table _ p.0) (held_pairs _ p.0 p.1.1) c.transposed-back.ensures c.loop-balanced.invariant.1 c.levels_round-more.ensures)
