-- Parts of the bytes, by places and by members.
use Prim.Native.Nat.{ℕ, zero, suc, ◌+◌, ◌<◌, ◌≤◌}
use mathlib.Core.Path.{◌≡◌, refl}
use mathlib.Core.List.{List, [], ◌∷◌, Memᴰ}
use mathlib.Core.Option.{none, some}
use native.Mathlib.Nat.{le_of_suc-le-suc, not-suc-le-zero}
use native.Mathlib.Omega.{arith}
use lib.ListN.{length, get_or, drop, get_elem?, length-take, length-drop, get_or-eq_default}
use lib.Seq.{get_or-take, get_or-drop}
use Rattle.vpa.proofs.Lists.{get_mem}
use Rattle.table.specs.Bytes.{byte, part}

pub mem_get : {X : Type 0} (d : X) {x : X} {xs : List X} → Memᴰ x xs → (k : ℕ) × (k < length xs) × (x ≡ get_or xs k d)
mem_get d (Memᴰ.head e) = (0, omega arith, e)
mem_get d (Memᴰ.tail m) = let r = mem_get d m in (suc r.0, omega arith, r.2)

-- An element that there is, and one that there is not.
pub element : (u : List ℕ) (i : ℕ) → i < length u → get_elem? u i ≡ some (byte u i)
element [] i l = absurd (not-suc-le-zero l)
element (x ∷ u) zero l = refl
element (x ∷ u) (suc i) l = element u i (le_of_suc-le-suc l)

pub no_element : (u : List ℕ) (i : ℕ) → length u ≤ i → get_elem? u i ≡ none
no_element [] i l = refl
no_element (x ∷ u) zero l = absurd (not-suc-le-zero l)
no_element (x ∷ u) (suc i) l = no_element u i (le_of_suc-le-suc l)

module _ (s : List ℕ) (place count : ℕ) where
  pub length_part : place + count ≤ length s → length (part s place count) ≡ count
  length_part h = simp (length-take, length-drop) (omega arith)

  pub byte_in_part : (i : ℕ) → i < count → byte (part s place count) i ≡ byte s (place + i)
  byte_in_part i l = rw (get_or-take, get_or-drop)

  pub byte_past_part : (i : ℕ) → count ≤ i → byte (part s place count) i ≡ 0
  byte_past_part i l = get_or-eq_default (part s place count) 0 (simp length-take (omega arith))

  pub element_of_part : (i : ℕ) → i < count → place + i < length s → get_elem? (part s place count) i ≡ some (byte s (place + i))
  element_of_part i l h = rw (← byte_in_part i l) (element (part s place count) i (simp (length-take, length-drop) (omega arith)))

  pub no_element_past_count : (i : ℕ) → count ≤ i → get_elem? (part s place count) i ≡ none
  no_element_past_count i l = no_element (part s place count) i (simp length-take (omega arith))

  pub no_element_past_end : (i : ℕ) → length s ≤ place + i → get_elem? (part s place count) i ≡ none
  no_element_past_end i l = no_element (part s place count) i (simp (length-take, length-drop) (omega arith))

  -- A bound on all members is one on all places.
  pub part_most : (most : ℕ) → ((i : ℕ) → i < count → byte s (place + i) ≤ most) → (x : ℕ) → Memᴰ x (part s place count) → x ≤ most
  part_most most h x m =
      let r = mem_get 0 m in
      let l : r.0 < count = omega (arith, length-take count (drop place s)) in
      rw (r.2, byte_in_part r.0 l) (h r.0 l)

  pub most_part : (most : ℕ) → place + count ≤ length s
      → ((x : ℕ) → Memᴰ x (part s place count) → x ≤ most) → (i : ℕ) → i < count → byte s (place + i) ≤ most
  most_part most l h i m = rw (byte_in_part i m) at (h _ (get_mem 0 (part s place count) i (omega (arith, length_part l))))
