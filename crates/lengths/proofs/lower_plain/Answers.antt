use Rattle.std.proofs.Common.{[], refl, get_or, ◌∙◌, arith}
use Rattle.table.specs.Layout.{moves_part}
use Rattle.nesting.proofs.MovesFound.{move_bounds}
use Rattle.lengths.proofs.LowerMany.{plain_skip, plain_more, plain_all}
use Rattle.lengths.proofs.Moves.{MoveBytes, move_bytes}
use Rattle.lengths.proofs.lower_plain.Goals as goal
use Rattle.lengths.proofs.lower_plain.Goals.{In-loop-from, then-is_of_kind, else-is_of_kind}

bytes : (c : In-loop-from) → MoveBytes (moves_part c.args.table.now.bytes.now) c.loop-from.from-index (get_or c.as_chunks.result.0.now c.loop-from.from-index [])
bytes c = move_bytes c.moves-part.ensures c.as_chunks.ensures.front c.as_chunks.ensures.front_len _ c.loop-from-test.true

pub lower-requires : goal.lower-requires
lower-requires c =
    let w = bytes (goal.at.lower-requires c).In-loop-from in
    let low = move_bounds _ c.args.table.now.good refl _ w.low in
    (rw (c.from-then-is_of_kind.ensures ∙ w.from) low.0, (rw (c.from-then-is_of_kind-2.ensures ∙ w.to) low.2, omega arith))

pub loop-from-preserved : goal.loop-from-preserved
loop-from-preserved c =
    let w = bytes (goal.at.loop-from-preserved c).In-loop-from in
    elim c.if-is_of_kind.branch [
      | then-is_of_kind v ↦ rw (v.scratch-is, v.queue-is) (plain_more _ c.args.table.now.good refl c.loop-from.invariant w.low (rw (c.from.ensures ∙ w.letter) at c.is_of_kind.ensures) v.if-is_of_kind.true (rw (v.from-then-is_of_kind.ensures ∙ w.from, v.from-then-is_of_kind-2.ensures ∙ w.to) at v.lower.ensures))
      | else-is_of_kind v ↦ rw (v.scratch-is, v.queue-is) (plain_skip _ c.args.table.now.good refl c.loop-from.invariant w.low (rw (c.from.ensures ∙ w.letter) at c.is_of_kind.ensures) v.if-is_of_kind.false)
    ]

pub returns : goal.returns
returns c = plain_all _ c.args.table.now.good refl c.loop-from.invariant (rw (← c.moves-part.ensures) (omega (arith, c.as_chunks.ensures.front_len)))
