use Rattle.std.proofs.Common.{arith, refl, sym, ◌∙◌, ◌<◌, ◌+◌, ◌*◌, ◌≡◌, ◌/◌, length, get_or, []}
use Rattle.table.specs.Layout.{moves_part}
use Rattle.pair_sets.proofs.ByLetter.{IsMove, move_of, letters_none, letters_more, letters_all}
use Rattle.pair_sets.proofs.by_letter.Goals as goal

few : (c : goal.After-loop-from) → length c.as_chunks.result.0.now ≡ length (moves_part c.args.table.now) / 4
few c = c.as_chunks.ensures.front_len ∙ rw c.checked_moves.ensures refl

here : (c : goal.After-from-in-loop-from) → IsMove c.args.table.now c.loop-from.from-index (get_or c.as_chunks.result.0.now c.loop-from.from-index [])
here c = move_of _ c.requires c.checked_moves.ensures c.as_chunks.ensures.front (omega (arith, c.as_chunks.ensures.front_len, c.loop-from-test.true))

pub loop-from-init : goal.loop-from-init
loop-from-init c = letters_none _

pub overflow_shl-rows : goal.overflow_shl-rows
overflow_shl-rows c =
    (move_of _ c.requires c.checked_moves.ensures c.as_chunks.ensures.front (omega (arith, c.as_chunks.ensures.front_len, c.loop-from-test.true))).to_low

low : (c : goal.After-from-in-loop-from) → 64 * c.from.result + c.from-in-loop-from.result < 2048
low c = let m = here c in omega (arith, m.from_low, m.letter_low, c.from.ensures, c.from-in-loop-from.ensures)

pub bounds-rows-from : goal.bounds-rows-from
bounds-rows-from c = low c

pub bounds-rows-from-in-loop-from : goal.bounds-rows-from-in-loop-from
bounds-rows-from-in-loop-from c = low c

pub loop-from-preserved : goal.loop-from-preserved
loop-from-preserved c =
    let m = here c in
    let from = c.from-in-loop-from.ensures in
    let letter = c.from.ensures in
    letters_more c.loop-from.invariant (sym (from ∙ m.from)) (sym (letter ∙ m.letter)) (sym m.to) (rw from m.from_low) (rw letter m.letter_low) m.to_low

pub returns : goal.returns
returns c = letters_all _ c.requires refl (omega (arith, few c)) (omega (arith, few c)) c.loop-from.invariant
