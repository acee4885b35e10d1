use Prim.Native.Nat.{ℕ, ◌+◌, ◌*◌, ◌<◌}
use mathlib.Core.List.{List, []}
use mathlib.Core.Logic.{◌↔◌}
use mathlib.Core.Path.{◌≡◌, ap, ◌∙◌}
use mathlib.Core.Bool.{true}
use native.Mathlib.Omega.{arith}
use borrow.Author.Tests.{lt-ltb, ltb-true}
use lib.ListN.{get_or}
use Rattle.std.specs.Simd.{first_chunks}
use Rattle.table.specs.Bytes.{quad}
use Rattle.table.specs.Layout.{moves_field, moves_part}
use Rattle.table.specs.Refusals.{place_of_move, rises?}
use Rattle.table.proofs.All.{adjacent_told}
use Rattle.table.proofs.Quads.{piece_count, piece_same, move_number}
use Rattle.table.proofs.all_rise.Goals as goal

-- Of each move and the next the numbers in their bytes are compared.
rises : (s : List ℕ) (k : ℕ) → k + 1 < moves_field s
    → (quad (get_or (first_chunks 4 (moves_field s) (moves_part s)) k []) 0 < quad (get_or (first_chunks 4 (moves_field s) (moves_part s)) (k + 1) []) 0) ↔ (rises? s k ≡ true)
unfolding rises?
rises s k l =
    let here = move_number s k [] (omega arith) in
    let next = move_number s (k + 1) [] l ∙ ap (quad s) (omega arith) in
    (λ h. lt-ltb _ _ (rw (here, next) at h), λ h. rw (here, next) (ltb-true _ _ h))

pub returns : goal.returns
returns c =
    let s = c.args.table.now in
    let n = moves_field s in
    adjacent_told (rises? s) (first_chunks 4 n (moves_part s)) [] n (piece_count 4 n (moves_part s)) (λ here next. quad here 0 < quad next 0) c.are_ascending.result (rises s)
    (λ k e l. piece_same 4 n (moves_part s) k e [] l)
    (rw c.move_quads.ensures at c.are_ascending.ensures)
