use Rattle.std.proofs.Common.{[], refl, ◌<◌, length, get_or, ◌∙◌, arith}
use Rattle.table.specs.Layout.{moves_part}
use Rattle.nesting.proofs.MovesFound.{move_bounds}
use Rattle.lengths.proofs.LowerAround.{around_skip, around_take, around_all}
use Rattle.lengths.proofs.Moves.{MoveBytes, move_bytes}
use Rattle.lengths.proofs.lower_around.Goals as goal
use Rattle.lengths.proofs.lower_around.Goals.{In-Some}

below : (c : In-Some) → c.in-Some.k < length c.as_chunks.result.0.now
below c = rw (c.as_chunks.ensures.front_len, c.moves-part.ensures) (omega (arith, c.in-Some.ensures.steps.1.1.1.0, c.loop-k.invariant.count))

bytes : (c : In-Some) → MoveBytes (moves_part c.args.links.table.now.bytes.now) c.in-Some.k (get_or c.as_chunks.result.0.now c.in-Some.k [])
bytes c = move_bytes c.moves-part.ensures c.as_chunks.ensures.front c.as_chunks.ensures.front_len _ (below c)

pub bounds-quads-k : goal.bounds-quads-k
bounds-quads-k c = below (goal.at.bounds-quads-k c).In-Some

pub lower_closing-requires : goal.lower_closing-requires
lower_closing-requires c =
    let w = bytes (goal.at.lower_closing-requires c).In-Some in
    (rw (c.from-then-is_of_kind.ensures ∙ w.from) (move_bounds _ c.args.links.table.now.good refl _ w.low).0, (c.requires.1.0, omega arith))

pub loop-k-preserved-then-is_of_kind : goal.loop-k-preserved-then-is_of_kind
loop-k-preserved-then-is_of_kind c =
    let h = c.loop-k.invariant in
    let s = c.in-Some.ensures.steps in
    let w = bytes (goal.at.loop-k-preserved-then-is_of_kind c).In-Some in
    record {
      chained = rw s.0 h.chained;
      count = s.1.0 ∙ h.count;
      around =
          rw s.1.1.1.1
          (around_take _ c.args.links.table.now.good refl h.chained w.low (rw (← s.1.1.0) at h.around)
          (rw (c.from.ensures ∙ w.letter) at c.is_of_kind.ensures) c.if-is_of_kind.true (rw (c.from-then-is_of_kind.ensures ∙ w.from, c.from-then-is_of_kind-2.ensures ∙ w.mark) at c.lower_closing.ensures));
    }

pub loop-k-preserved : goal.loop-k-preserved
loop-k-preserved c =
    let h = c.loop-k.invariant in
    let s = c.in-Some.ensures.steps in
    let w = bytes (goal.at.loop-k-preserved c).In-Some in
    record {
      chained = rw s.0 h.chained;
      count = s.1.0 ∙ h.count;
      around =
          rw s.1.1.1.1
          (around_skip _ c.args.links.table.now.good refl h.chained w.low (rw (← s.1.1.0) at h.around)
          (rw (c.from.ensures ∙ w.letter) at c.is_of_kind.ensures) c.if-is_of_kind.false);
    }

pub returns : goal.returns
returns c = around_all _ c.args.links.table.now.good refl (omega (arith, c.in-None.ensures.steps.1.1, c.loop-k.invariant.count)) c.loop-k.invariant.around
