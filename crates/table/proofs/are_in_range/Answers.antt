use Prim.Native.Nat.{ℕ, ◌+◌, ◌*◌, ◌<◌}
use mathlib.Core.List.{List, []}
use mathlib.Core.Logic.{◌↔◌}
use mathlib.Core.Path.{◌≡◌, sym, ap, ◌∙◌}
use mathlib.Core.Bool.{true}
use native.Mathlib.Omega.{arith}
use borrow.Author.Tests.{lt-ltb, ltb-true}
use lib.ListN.{get_or}
use Rattle.std.specs.Simd.{first_chunks}
use Rattle.table.specs.Bytes.{byte}
use Rattle.table.specs.Layout.{states_field, moves_field, moves_part}
use Rattle.table.specs.Refusals.{place_of_move, move_from, move_letter, move_mark, move_to, mark_bound, in_range?, Fits}
use Rattle.table.proofs.All.{all_told, both, and_true}
use Rattle.table.proofs.Quads.{piece_count, move_byte}
use Rattle.table.proofs.are_in_range.Goals as goal

-- Of each move its from, mark and to are compared with what they must be below.
fits : (s bounds : List ℕ) → ((a : ℕ) → mark_bound s a ≡ get_or bounds a 0) → (k : ℕ) → k < moves_field s
    → Fits (states_field s) bounds (get_or (first_chunks 4 (moves_field s) (moves_part s)) k []) ↔ (in_range? s k ≡ true)
unfolding in_range?
fits s bounds bound k l =
    let at = get_or (first_chunks 4 (moves_field s) (moves_part s)) k [] in
    let from : byte at 0 ≡ move_from s k = move_byte s k 0 [] l (omega arith) ∙ ap (byte s) {y = place_of_move s k} (omega arith) in
    let letter : byte at 1 ≡ move_letter s k = move_byte s k 1 [] l (omega arith) in
    let mark : byte at 2 ≡ move_mark s k = move_byte s k 2 [] l (omega arith) in
    let to : byte at 3 ≡ move_to s k = move_byte s k 3 [] l (omega arith) in
    let below : byte bounds (byte at 1) ≡ mark_bound s (move_letter s k) = ap (byte bounds) letter ∙ sym (bound (move_letter s k)) in (
      λ h. and_true (and_true (lt-ltb _ _ (rw from at h.0)) (lt-ltb _ _ (rw (mark, below) at h.1))) (lt-ltb _ _ (rw to at h.2)),
      λ h.
          let u = both _ _ h in
          let v = both _ _ u.0 in
          (rw from (ltb-true _ _ v.0), rw (mark, below) (ltb-true _ _ v.1), rw to (ltb-true _ _ u.1)),
    )

pub returns : goal.returns
returns c =
    let s = c.args.table.now in
    let n = moves_field s in
    all_told (in_range? s) (first_chunks 4 n (moves_part s)) [] n (piece_count 4 n (moves_part s)) (Fits (states_field s) c.mark_bounds.result) c.all_fit.result
    (fits s c.mark_bounds.result c.mark_bounds.ensures)
    (rw (c.move_quads.ensures, ← c.at.ensures) at c.all_fit.ensures)
