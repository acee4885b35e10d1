-- A row more stands in its place.
use Rattle.std.proofs.Common.{rules, arith}
use Rattle.nesting.proofs.Cleared.{scratch_size_lem}
use Rattle.triples.proofs.Rows.{written_none, written_low, written_room, written_more, written_all}
use Rattle.triples.proofs.write_rows.Goals as goal

pub loop-k-init : goal.loop-k-init
loop-k-init c = written_none _ (search rules)

pub overflow_cast-row-in-loop-k-3 : goal.overflow_cast-row-in-loop-k-3
overflow_cast-row-in-loop-k-3 c = omega (arith, written_low c.loop-k.invariant c.in-Some.ensures.steps)

pub overflow_add-at : goal.overflow_add-at
overflow_add-at c = omega (arith, written_room c.loop-k.invariant c.in-Some.ensures.steps c.requires.last_bound.0)

pub offset_bounds-scratch-at : goal.offset_bounds-scratch-at
offset_bounds-scratch-at c = omega (arith, written_room c.loop-k.invariant c.in-Some.ensures.steps c.requires.last_bound.0)

pub slice_bounds-copy_from_slice-end : goal.slice_bounds-copy_from_slice-end
slice_bounds-copy_from_slice-end c =
    let room = written_room c.loop-k.invariant c.in-Some.ensures.steps c.requires.last_bound.0 in
    omega (arith, scratch_size_lem, c.requires.last_bound.1)

pub loop-k-preserved : goal.loop-k-preserved
loop-k-preserved c =
    let room = written_room c.loop-k.invariant c.in-Some.ensures.steps c.requires.last_bound.0 in
    written_more c.loop-k.invariant c.in-Some.ensures.steps c.copy_from_slice.ensures.after (omega arith) (omega (arith, scratch_size_lem, c.requires.last_bound.1))

pub returns : goal.returns
returns c = written_all c.loop-k.invariant c.in-None.ensures.steps.0
