use Rattle.std.proofs.Common.{[], refl, ap, get_or, ◌∙◌}
use Rattle.table.specs.Layout.{moves_part}
use Rattle.nesting.proofs.MovesFound.{move_bounds}
use Rattle.lengths.proofs.Moves.{MoveBytes, move_bytes}
use Rattle.shortest.proofs.Finding.{searching_low, searching_here, searching_more, open_found, open_other}
use Rattle.shortest.proofs.find_open.Goals as goal
use Rattle.shortest.proofs.find_open.Goals.{In-Some}

closes : (c : In-Some) → MoveBytes (moves_part c.args.links.table.now.bytes.now) c.args.j (get_or c.as_chunks.result.0.now c.args.j [])
closes c = move_bytes c.moves-part.ensures c.as_chunks.ensures.front c.as_chunks.ensures.front_len _ (rw (c.as_chunks.ensures.front_len, c.moves-part.ensures) c.requires.1.0)

opens : (c : In-Some) → MoveBytes (moves_part c.args.links.table.now.bytes.now) c.in-Some.k (get_or c.as_chunks.result.0.now c.in-Some.k [])
opens c =
    move_bytes c.moves-part.ensures c.as_chunks.ensures.front c.as_chunks.ensures.front_len _
    (rw (c.as_chunks.ensures.front_len, c.moves-part.ensures) (searching_low c.loop-k.invariant c.in-Some.ensures.steps.1.1.1.0))

pub length_at-inside-requires : goal.length_at-inside-requires
length_at-inside-requires c =
    let at = (goal.at.length_at-inside-requires c).In-Some in
    let b = move_bounds _ c.args.links.table.now.good refl in
    (rw (c.from.ensures ∙ (opens at).to) (b _ (opens at).low).2, (rw (c.from-q.ensures ∙ (closes at).from) (b _ c.requires.1.0).0, c.requires.1.1))

pub returns-then-inside-moves : goal.returns-then-inside-moves
returns-then-inside-moves c =
    let at = (goal.at.returns-then-inside-moves c).In-Some in
    open_found _ c.args.links.table.now.good refl _ _ (opens at).low
    (rw (c.from.ensures ∙ (opens at).to, c.from-q.ensures ∙ (closes at).from) at c.length_at-inside.ensures.0)
    (searching_here c.loop-k.invariant c.in-Some.ensures.steps.1.1.0)
    (rw (c.moves-part.ensures, c.from-mark.ensures ∙ (closes at).mark) at c.is_move_of.ensures) c.if-inside-moves.true

pub loop-k-preserved : goal.loop-k-preserved
loop-k-preserved c =
    let at = (goal.at.loop-k-preserved c).In-Some in
    let s = c.in-Some.ensures.steps in
    let k = s.1.1 in
    let other =
    open_other _ c.args.links.table.now.good refl _ _ (opens at).low
    (rw (c.from.ensures ∙ (opens at).to, c.from-q.ensures ∙ (closes at).from) at c.length_at-inside.ensures.0)
    (rw (c.moves-part.ensures, c.from-mark.ensures ∙ (closes at).mark) at c.is_move_of.ensures) c.if-inside-moves.false in
    searching_more c.loop-k.invariant (ap (λ l. l.now) s.0) s.1.0 k.0 k.1.0 k.1.1 other
