use Rattle.std.proofs.Common.{[], refl, ap, get_or, ◌∙◌}
use Rattle.table.specs.Layout.{moves_part}
use Rattle.lengths.proofs.Moves.{MoveBytes, move_bytes}
use Rattle.shortest.proofs.Finding.{searching_low, searching_here, searching_more, plain_found, plain_other}
use Rattle.shortest.proofs.find_plain.Goals as goal
use Rattle.shortest.proofs.find_plain.Goals.{In-Some}

bytes : (c : In-Some) → MoveBytes (moves_part c.args.links.table.now.bytes.now) c.in-Some.k (get_or c.as_chunks.result.0.now c.in-Some.k [])
bytes c =
    move_bytes c.moves.ensures c.as_chunks.ensures.front c.as_chunks.ensures.front_len _
    (rw (c.as_chunks.ensures.front_len, c.moves.ensures) (searching_low c.loop-k.invariant c.in-Some.ensures.steps.1.1.1.0))

pub returns-then-ends-is_of_kind : goal.returns-then-ends-is_of_kind
returns-then-ends-is_of_kind c =
    let w = bytes (goal.at.returns-then-ends-is_of_kind c).In-Some in
    plain_found _ c.args.links.table.now.good refl w.low (searching_here c.loop-k.invariant c.in-Some.ensures.steps.1.1.0)
    (rw (c.from-in-loop-k.ensures ∙ w.letter) at c.is_of_kind.ensures) (rw (c.from.ensures ∙ w.to) at c.if-ends-is_of_kind.true)

pub loop-k-preserved : goal.loop-k-preserved
loop-k-preserved c =
    let s = c.in-Some.ensures.steps in
    let k = s.1.1 in
    let w = bytes (goal.at.loop-k-preserved c).In-Some in
    let other =
    plain_other _ c.args.links.table.now.good refl w.low (rw (c.from-in-loop-k.ensures ∙ w.letter) at c.is_of_kind.ensures)
    (rw (c.from.ensures ∙ w.to) at c.if-ends-is_of_kind.false) in
    searching_more c.loop-k.invariant (ap (λ l. l.now) s.0) s.1.0 k.0 k.1.0 k.1.1 other
