use Prim.Native.Nat.{◌+◌, ◌<◌, ◌≤◌}
use native.Mathlib.Omega.{arith}
use lib.ListN.{length}
use Rattle.table.specs.Calls.{kind_of}
use Rattle.table.specs.Layout.{kinds_place, letters_field, parse}
use Rattle.table.proofs.Parts.{element_of_part, no_element_past_count, no_element_past_end}
use Rattle.table.proofs.kind_at.Goals as goal

pub returns-then-letter-number_at : goal.returns-then-letter-number_at
unfolding kind_of parse
returns-then-letter-number_at c =
    let s = c.args.table.now in
    rw (no_element_past_count s kinds_place (letters_field s) c.args.letter (omega arith))

pub returns-in_err-number : goal.returns-in_err-number
unfolding kind_of parse
returns-in_err-number c =
    let s = c.args.table.now in
    let past : length s ≤ kinds_place + c.args.letter = omega (arith, c.in_err-number.ensures.lookup) in
    rw (c.from_residual.ensures, no_element_past_end s kinds_place (letters_field s) c.args.letter past)

pub returns : goal.returns
unfolding kind_of parse
returns c =
    let s = c.args.table.now in
    let h = c.in_ok-number.ensures.lookup in
    rw (element_of_part s kinds_place (letters_field s) c.args.letter (omega arith) (omega (arith, h))) (cc (c.from.ensures, c.in_ok-number.number-is, h.3.1 0))
