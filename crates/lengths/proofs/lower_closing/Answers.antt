use Rattle.std.proofs.Common.{[], refl, ◌<◌, length, get_or, ◌∙◌, arith}
use Rattle.table.specs.Layout.{moves_part}
use Rattle.nesting.proofs.MovesFound.{move_bounds}
use Rattle.lengths.proofs.LowerAround.{closing_skip, closing_take, closing_all}
use Rattle.lengths.proofs.Moves.{MoveBytes, move_bytes}
use Rattle.lengths.proofs.lower_closing.Goals as goal
use Rattle.lengths.proofs.lower_closing.Goals.{In-Some}

below : (c : In-Some) → c.in-Some.k < length c.as_chunks.result.0.now
below c = rw (c.as_chunks.ensures.front_len, c.moves-part.ensures) (omega (arith, c.in-Some.ensures.steps.1.1.1.0, c.loop-k.invariant.count))

bytes : (c : In-Some) → MoveBytes (moves_part c.args.links.table.now.bytes.now) c.in-Some.k (get_or c.as_chunks.result.0.now c.in-Some.k [])
bytes c = move_bytes c.moves-part.ensures c.as_chunks.ensures.front c.as_chunks.ensures.front_len _ (below c)

pub lower-requires : goal.lower-requires
lower-requires c =
    let w = bytes (goal.at.lower-requires c).In-Some in
    (c.requires.0, (rw (c.from.ensures ∙ w.to) (move_bounds _ c.args.links.table.now.good refl _ w.low).2, omega arith))

pub loop-k-preserved-then-is_move_of : goal.loop-k-preserved-then-is_move_of
loop-k-preserved-then-is_move_of c =
    let h = c.loop-k.invariant in
    let s = c.in-Some.ensures.steps in
    let w = bytes (goal.at.loop-k-preserved-then-is_move_of c).In-Some in
    record {
      chained = rw s.0 h.chained;
      count = s.1.0 ∙ h.count;
      closing =
          rw s.1.1.1.1
          (closing_take _ c.args.links.table.now.good refl h.chained w.low (rw (← s.1.1.0) at h.closing)
          (rw c.moves-part.ensures at c.is_move_of.ensures) c.if-is_move_of.true c.requires.0 (rw (c.from.ensures ∙ w.to) at c.lower.ensures));
    }

pub loop-k-preserved : goal.loop-k-preserved
loop-k-preserved c =
    let h = c.loop-k.invariant in
    let s = c.in-Some.ensures.steps in
    let w = bytes (goal.at.loop-k-preserved c).In-Some in
    record {
      chained = rw s.0 h.chained;
      count = s.1.0 ∙ h.count;
      closing =
          rw s.1.1.1.1
          (closing_skip _ c.args.links.table.now.good refl h.chained w.low (rw (← s.1.1.0) at h.closing)
          (rw c.moves-part.ensures at c.is_move_of.ensures) c.if-is_move_of.false);
    }

pub returns : goal.returns
returns c = closing_all _ c.args.links.table.now.good refl (omega (arith, c.in-None.ensures.steps.1.1, c.loop-k.invariant.count)) c.loop-k.invariant.closing
