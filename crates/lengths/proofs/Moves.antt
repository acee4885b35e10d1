-- Moves read four bytes at a time.
use Prim.Native.Nat.{ℕ, ◌+◌, ◌*◌, ◌/◌, ◌<◌, ◌≤◌}
use mathlib.Core.List.{List, []}
use mathlib.Core.Path.{◌≡◌, refl, ◌∙◌, subst}
use native.Mathlib.Omega.{arith}
use native.Mathlib.Nat.{add-zero}
use lib.ListN.{length, get_or}
use Rattle.std.specs.Simd.{first_chunks}
use Rattle.table.specs.Bytes.{byte}
use Rattle.table.proofs.Quads.{quad_byte}

-- The bytes of move i of u.
pub record MoveBytes (u : List ℕ) (i : ℕ) (four : List ℕ) : Type 0 where
  pub low : i < length u / 4
  pub from : get_or four 0 0 ≡ byte u (4 * i)
  pub letter : get_or four 1 0 ≡ byte u (4 * i + 1)
  pub mark : get_or four 2 0 ≡ byte u (4 * i + 2)
  pub to : get_or four 3 0 ≡ byte u (4 * i + 3)

-- The fours of part, whose bytes are u, hold its moves; d stands for no four.
pub move_bytes_or : {part u : List ℕ} → part ≡ u → {fours : List (List ℕ)} → fours ≡ first_chunks 4 (length part / 4) part → length fours ≡ length part / 4
    → (i : ℕ) (d : List ℕ) → i < length fours → MoveBytes u i (get_or fours i d)
move_bytes_or {part} p {fours} e k i d l = subst (λ u. MoveBytes u i (get_or fours i d)) p (rw e (record {
  low = low;
  from = at 0 (omega arith) ∙ rw (add-zero (4 * i)) refl;
  letter = at 1 (omega arith);
  mark = at 2 (omega arith);
  to = at 3 (omega arith);
})) where
  low : i < length part / 4
  low = omega arith

  at : (j : ℕ) → j < 4 → get_or (get_or (first_chunks 4 (length part / 4) part) i d) j 0 ≡ byte part (4 * i + j)
  at j m = quad_byte part i j d low m

pub move_bytes : {part u : List ℕ} → part ≡ u → {fours : List (List ℕ)} → fours ≡ first_chunks 4 (length part / 4) part → length fours ≡ length part / 4
    → (i : ℕ) → i < length fours → MoveBytes u i (get_or fours i [])
move_bytes p e k i l = move_bytes_or p e k i [] l

-- The same of a four that was got at place i.
pub move_got : {part u : List ℕ} → part ≡ u → {fours : List (List ℕ)} → fours ≡ first_chunks 4 (length part / 4) part → length fours ≡ length part / 4
    → (i : ℕ) {four : List ℕ} (d : List ℕ) → i < length fours → four ≡ get_or fours i d → MoveBytes u i four
move_got p e k i d l g = rw g (move_bytes_or p e k i d l)

-- The same of one byte, by its number.
pub move_byte : {part u : List ℕ} → part ≡ u → {fours : List (List ℕ)} → fours ≡ first_chunks 4 (length part / 4) part → length fours ≡ length part / 4
    → (i j : ℕ) → i < length fours → j ≤ 3 → get_or (get_or fours i []) j 0 ≡ byte u (4 * i + j)
move_byte {part} p {fours} e k i j l m = subst (λ u. get_or (get_or fours i []) j 0 ≡ byte u (4 * i + j)) p (rw e (quad_byte part i j [] (omega arith) (omega arith)))
