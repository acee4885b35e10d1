-- The rows of one mark more are appended; what `append` asks for, the appended rows before keep.
use Rattle.std.proofs.Common.{rules, arith}
use Rattle.trim.specs.Steps.{marked_rows}
use Rattle.trim.proofs.Blocks.{marked_row}
use Rattle.triples.proofs.Laying.{appended_low, appended_long}
use Rattle.triples.proofs.Rows.{walk_none, walk_more, walk_low, walk_all}
use Rattle.trim.proofs.list_marked.Goals as goal

pub loop-k-init : goal.loop-k-init
loop-k-init c = walk_none _ (search rules) (omega (arith, c.requires.letter_bound))

pub offset_bounds-plan-k : goal.offset_bounds-plan-k
offset_bounds-plan-k c = omega (arith, walk_low c.loop-k.invariant c.in-Some.ensures.steps)

pub bounds-plan-k : goal.bounds-plan-k
bounds-plan-k c = omega (arith, walk_low c.loop-k.invariant c.in-Some.ensures.steps)

pub offset_bounds-ends-k : goal.offset_bounds-ends-k
offset_bounds-ends-k c = omega (arith, walk_low c.loop-k.invariant c.in-Some.ensures.steps)

pub bounds-ends-k : goal.bounds-ends-k
bounds-ends-k c = omega (arith, walk_low c.loop-k.invariant c.in-Some.ensures.steps)

pub append-total-requires : goal.append-total-requires
append-total-requires c =
    let p = c.requires.letter_bound in
    let h = c.loop-k.invariant.appended in
    let low = walk_low c.loop-k.invariant c.in-Some.ensures.steps in
    record { most_bound = (omega arith, (appended_low h, omega (arith, appended_long h))); x_bound = (p.1.0, (p.0, omega arith)) }

pub loop-k-preserved : goal.loop-k-preserved
loop-k-preserved c =
    walk_more c.loop-k.invariant c.in-Some.ensures.steps (marked_row _ _ _ _ _ _ _ _ c.targets.ensures c.append-total.ensures)

pub returns : goal.returns
unfolding marked_rows
returns c = walk_all c.loop-k.invariant c.in-None.ensures.steps.0
