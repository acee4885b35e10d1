use Rattle.std.proofs.Common.{arith}
use Rattle.table.proofs.Tables.{good_table}
use Rattle.relation.proofs.Owned.{owned}
use Rattle.nesting.proofs.PairSearch.{pairs_start, pairs_more}
use Rattle.nesting.proofs.Rounds.{larger, pair_round_keeps, pairs_done}
use Rattle.nesting.proofs.balanced_pairs.Goals as goal

pub loop-s-init : goal.loop-s-init
loop-s-init c = (owned _ _ c.first_pairs-r.type_inv, pairs_start _ (good_table _ c.requires.good) c.first_pairs-r.ensures)

pub returns-then-size : goal.returns-then-size
returns-then-size c =
    let i = c.loop-s.invariant in
    pairs_done _ (good_table _ c.requires.good) i.0 (owned _ _ c.pairs_round-s.type_inv) i.1 c.pairs_round-s.ensures (omega arith)

pub loop-s-smaller : goal.loop-s-smaller
loop-s-smaller c = larger (pair_round_keeps c.pairs_round-s.ensures) (λ e. c.if-size.false (omega arith))

pub loop-s-preserved : goal.loop-s-preserved
loop-s-preserved c =
    (owned _ _ c.pairs_round-s.type_inv, pairs_more _ (good_table _ c.requires.good) c.loop-s.invariant.1 c.pairs_round-s.ensures)
