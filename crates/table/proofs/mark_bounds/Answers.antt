use Prim.Native.Nat.{◌+◌, ◌-◌, ◌<◌, ◌≤◌}
use mathlib.Core.Bool.{cond}
use mathlib.Core.Path.{◌≡◌, sym, ap, ◌∙◌}
use native.Mathlib.Omega.{arith}
use lib.Dec.{eqb}
use lib.ListN.{length, get_or, drop, take}
use Rattle.table.specs.Layout.{kinds_place, letters_field}
use Rattle.table.specs.Refusals.{kind_byte, mark_bound}
use Rattle.table.proofs.Filled.{Filled, filled_none, filled_more}
use Rattle.table.proofs.Parts.{length_part, byte_in_part}
use Rattle.table.proofs.mark_bounds.Goals as goal

pub loop-letter-init : goal.loop-letter-init
loop-letter-init c = filled_none _ 0 256

pub loop-letter-preserved : goal.loop-letter-preserved
loop-letter-preserved c =
    let s = c.args.table.now in
    let e : 8 + c.number_at.result - 8 ≡ letters_field s = omega arith in
    let kind = byte_in_part s kinds_place (letters_field s) c.loop-letter.letter (omega arith) in
    filled_more _ 0 _ (omega arith) c.loop-letter.invariant (rw (e, kind) at c.mark_bound.ensures)

pub returns : goal.returns
unfolding mark_bound
returns c i =
    let s = c.args.table.now in
    let e : c.loop-letter.letter ≡ letters_field s = omega arith in
    rw (c.at-marks.ensures, ← e) (c.loop-letter.invariant.at i)
