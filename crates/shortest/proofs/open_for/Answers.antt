use Rattle.std.proofs.Common.{refl, ◌∙◌, arith}
use Rattle.lengths.specs.Steps.{length_in}
use Rattle.lengths.proofs.Moves.{move_got}
use Rattle.shortest.proofs.Finding.{nest_tried, nest_other}
use Rattle.shortest.proofs.open_for.Goals as goal

pub returns-then-ends-is_of_kind : goal.returns-then-ends-is_of_kind
returns-then-ends-is_of_kind c =
    let a = c.args in
    let g = c.in_ok-letter.ensures.lookup in
    let w = move_got c.moves.ensures c.as_chunks.ensures.front c.as_chunks.ensures.front_len c.args.j _ (omega (arith, g)) g.1 in
    nest_tried _ a.links.table.now.good refl (length_in a.scratch.now) a.p a.r a.moves a.j w.low (rw (c.from-2.ensures ∙ w.letter) at c.is_of_kind.ensures) c.find_open.result
    (rw (c.from.ensures ∙ w.to) at c.if-ends-is_of_kind.true) c.find_open.ensures

pub returns-else-ends-is_of_kind : goal.returns-else-ends-is_of_kind
returns-else-ends-is_of_kind c =
    let a = c.args in
    let g = c.in_ok-letter.ensures.lookup in
    let w = move_got c.moves.ensures c.as_chunks.ensures.front c.as_chunks.ensures.front_len c.args.j _ (omega (arith, g)) g.1 in
    nest_other _ a.links.table.now.good refl (length_in a.scratch.now) a.p a.r a.moves a.j w.low (rw (c.from-2.ensures ∙ w.letter) at c.is_of_kind.ensures)
    (rw (c.from.ensures ∙ w.to) at c.if-ends-is_of_kind.false)
