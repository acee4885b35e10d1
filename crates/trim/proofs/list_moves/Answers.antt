-- The moves from one state more are appended.
use Rattle.std.proofs.Common.{arith}
use Rattle.triples.proofs.Laying.{appended_low, appended_long}
use Rattle.trim.proofs.Moves.{moves_all}
use Rattle.triples.proofs.Rows.{listed_none, listed_more}
use Rattle.trim.proofs.list_moves.Goals as goal

pub loop-number-init : goal.loop-number-init
loop-number-init c = listed_none _ (omega arith)

pub origin_of-requires : goal.origin_of-requires
origin_of-requires c = let p = c.requires.plan_of in omega (arith, p.count, p.guides.states)

pub list_from-total-requires-clause-count_bound : goal.list_from-total-requires-clause-count_bound
list_from-total-requires-clause-count_bound c =
    let h = c.loop-number.invariant.appended in (appended_low h, omega (arith, c.requires.scratch_bound, appended_long h))

pub list_from-total-requires-clause-guides : goal.list_from-total-requires-clause-guides
list_from-total-requires-clause-guides c =
    let p = c.requires.plan_of in
    (p.guides, c.origin_of.ensures.is_from _ p (omega arith))

pub loop-number-preserved : goal.loop-number-preserved
loop-number-preserved c = listed_more c.loop-number.invariant (rw c.origin_of.ensures.number at c.list_from-total.ensures)

pub returns : goal.returns
returns c = let p = c.requires.plan_of in moves_all _ (omega (arith, p.count, p.guides.states)) c.loop-number.invariant
