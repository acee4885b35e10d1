-- A list cut into pieces of one size, as the library cuts a slice of moves into fours.
use Prim.Native.Nat.{ℕ, zero, suc, ◌+◌, ◌*◌, ◌/◌, ◌<◌}
use mathlib.Core.Path.{◌≡◌, refl, ap, ◌∙◌}
use mathlib.Core.List.{List}
use native.Mathlib.Omega.{arith}
use lib.ListN.{length, get_or, take, drop}
use lib.Seq.{get_or-drop, get_or-take}
use Rattle.std.specs.Simd.{first_chunks}
use Rattle.table.specs.Bytes.{byte, quad}
use Rattle.table.specs.Layout.{moves_field, moves_place, moves_part}
use Rattle.table.specs.Refusals.{place_of_move}
use Rattle.table.proofs.Entries.{move_in}
use Rattle.table.proofs.Parts.{byte_in_part}

-- Element j of piece k.
pub piece_byte : (n count : ℕ) (xs : List ℕ) (k j : ℕ) (d : List ℕ) → k < count → j < n → get_or (get_or (first_chunks n count xs) k d) j 0 ≡ get_or xs (k * n + j) 0
piece_byte n zero xs k j d l m = absurd (omega arith)
piece_byte n (suc count) xs zero j d l m = get_or-take n xs j 0 m ∙ ap (λ i. get_or xs i 0) (omega arith)
piece_byte n (suc count) xs (suc k) j d l m =
    piece_byte n count (drop n xs) k j d (omega arith) m ∙ get_or-drop n xs (k * n + j) 0 ∙ ap (λ i. get_or xs i 0) (omega arith)

-- Byte j of move k.
pub quad_byte : (xs : List ℕ) (k j : ℕ) (d : List ℕ) → k < length xs / 4 → j < 4 → get_or (get_or (first_chunks 4 (length xs / 4) xs) k d) j 0 ≡ get_or xs (4 * k + j) 0
quad_byte xs k j d l m = piece_byte 4 (length xs / 4) xs k j d l m ∙ ap (λ i. get_or xs i 0) (omega arith)

-- The four bytes of move k are the move.
pub quad_move : (xs : List ℕ) (k : ℕ) (d : List ℕ) → k < length xs / 4 → move_in (get_or (first_chunks 4 (length xs / 4) xs) k d) 0 ≡ move_in xs (4 * k)
quad_move xs k d l = cc (first, at 1 (omega arith), at 2 (omega arith), at 3 (omega arith))
  where
    at : (j : ℕ) → j < 4 → get_or (get_or (first_chunks 4 (length xs / 4) xs) k d) j 0 ≡ get_or xs (4 * k + j) 0
    at j m = quad_byte xs k j d l m

    first : get_or (get_or (first_chunks 4 (length xs / 4) xs) k d) 0 0 ≡ get_or xs (4 * k) 0
    first = at 0 (omega arith) ∙ ap (λ i. get_or xs i 0) (omega arith)

-- The same of a table's moves, by their places in the whole table.
pub piece_count : (n count : ℕ) (xs : List ℕ) → length (first_chunks n count xs) ≡ count
piece_count n zero xs = refl
piece_count n (suc count) xs = ap suc (piece_count n count (drop n xs))

pub move_byte : (s : List ℕ) (k j : ℕ) (d : List ℕ) → k < moves_field s → j < 4
    → get_or (get_or (first_chunks 4 (moves_field s) (moves_part s)) k d) j 0 ≡ byte s (place_of_move s k + j)
move_byte s k j d l m =
    piece_byte 4 (moves_field s) (moves_part s) k j d l m
    ∙ byte_in_part s (moves_place s) (4 * moves_field s) (k * 4 + j) (omega arith)
    ∙ ap (λ i. get_or s i 0) (omega arith)

pub move_number : (s : List ℕ) (k : ℕ) (d : List ℕ) → k < moves_field s → quad (get_or (first_chunks 4 (moves_field s) (moves_part s)) k d) 0 ≡ quad s (place_of_move s k)
move_number s k d l = cc (at 0 (omega arith), at 1 (omega arith), at 2 (omega arith), at 3 (omega arith), first, last)
  where
    at : (j : ℕ) → j < 4 → get_or (get_or (first_chunks 4 (moves_field s) (moves_part s)) k d) j 0 ≡ byte s (place_of_move s k + j)
    at j m = move_byte s k j d l m

    first : place_of_move s k + 0 ≡ place_of_move s k
    first = omega arith

    last : place_of_move s k + 2 + 1 ≡ place_of_move s k + 3
    last = omega arith

-- A piece is the same whatever stands for no piece.
pub piece_same : (n count : ℕ) (xs : List ℕ) (k : ℕ) (d e : List ℕ) → k < count → get_or (first_chunks n count xs) k d ≡ get_or (first_chunks n count xs) k e
piece_same n zero xs k d e l = absurd (omega arith)
piece_same n (suc count) xs zero d e l = refl
piece_same n (suc count) xs (suc k) d e l = piece_same n count (drop n xs) k d e (omega arith)
