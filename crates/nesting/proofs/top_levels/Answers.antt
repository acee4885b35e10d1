use Rattle.std.proofs.Common.{arith}
use Rattle.relation.proofs.Owned.{owned}
use Rattle.relation.proofs.Relations.{built_empty, built_more, built_all, holds_inside}
use Rattle.nesting.proofs.Rounds.{top_row}
use Rattle.nesting.proofs.top_levels.Goals as goal

pub loop-q-init : goal.loop-q-init
loop-q-init c = built_empty _ (owned _ _ c.empty-r.type_inv) c.empty-r.ensures

pub loop-q-preserved : goal.loop-q-preserved
loop-q-preserved c =
    built_more c.if_final.type_inv (omega (arith, c.loop-q-test.true)) c.loop-q.invariant
    (top_row _ _ c.initial_states-initial.ensures (owned _ _ c.well_formed.1.0) c.if_final.ensures)

pub returns : goal.returns
returns c = built_all (omega (arith, c.loop-q-test.false)) (λ q o w. (holds_inside (owned _ _ c.well_formed.1.0) w.pair).0) c.loop-q.invariant
