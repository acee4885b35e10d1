-- Lists of bytes against lists of moves.
use Prim.Native.Nat.{ℕ, zero, suc, ◌+◌, ◌*◌, ◌-◌, ◌/◌, ◌<◌}
use mathlib.Core.Path.{◌≡◌, refl, sym, ap, subst, ◌∙◌}
use mathlib.Core.Bool.{cond}
use mathlib.Core.List.{List, [], ◌∷◌, Memᴰ}
use mathlib.Core.Option.{none, some}
use native.Mathlib.Nat.{add_assoc}
use native.Mathlib.Omega.{arith}
use lib.ListN.{length, get_or, get_elem?, take, drop}
use lib.Seq.{get_or-drop, get_or-take}
use lib.Dec.{ltb, leb-suc-suc}
use borrow.Author.Tests.{lt-ltb, le-ltb}
use Rattle.vpa.specs.Lists.{Sorted, sorted_none, sorted_more}
use Rattle.vpa.specs.TableOnDisk.{Entry, entry}
use Rattle.table.specs.Bytes.{byte, quad, part}
use Rattle.vpa.proofs.Lists.{get_mem}
use Rattle.table.specs.Layout.{entries, move_bytes}
use Rattle.table.proofs.Order.{number}
use Rattle.table.proofs.Parts.{mem_get}

module _ {X : Type 0} (d : X) where
  got : (xs : List X) (k : ℕ) {x : X} → get_elem? xs k ≡ some x → get_or xs k d ≡ x
  got [] k e = cc
  got (x ∷ xs) zero e = cc
  got (x ∷ xs) (suc k) e = got xs k e

  module _ (R : X → X → Type 0) where
    -- Each element stands before the next. Then it stands before all that follow, and the other way round.
    abbrev pub Rising : List X → Type 0
    Rising xs = (k : ℕ) → suc k < length xs → R (get_or xs k d) (get_or xs (suc k) d)

    pub rising_sorted : ((x y z : X) → R x y → R y z → R x z) → (xs : List X) → Rising xs → Sorted R xs
    rising_sorted trans [] h = sorted_none
    rising_sorted trans (x ∷ xs) h = sorted_more (above x xs h) (rising_sorted trans xs (λ k l. h (suc k) (omega arith)))
      where
        above : (x : X) (xs : List X) → Rising (x ∷ xs) → (y : X) → Memᴰ y xs → R x y
        above x [] h y m = elim m [ ]
        above x (z ∷ zs) h y (Memᴰ.head e) = subst (R x) (sym e) (h 0 (omega arith))
        above x (z ∷ zs) h y (Memᴰ.tail m) = trans x z y (h 0 (omega arith)) (above z zs (λ k l. h (suc k) (omega arith)) y m)

    pub sorted_apart : {xs : List X} → Sorted R xs → (j k : ℕ) → j < k → k < length xs → R (get_or xs j d) (get_or xs k d)
    sorted_apart sorted_none j k l m = absurd (omega arith)
    sorted_apart (sorted_more n r) j zero l m = absurd (omega arith)
    sorted_apart (sorted_more {xs = xs} n r) zero (suc k) l m = n (get_or xs k d) (get_mem d xs k (omega arith))
    sorted_apart (sorted_more n r) (suc j) (suc k) l m = sorted_apart r j k (omega arith) (omega arith)

    pub sorted_rising : {xs : List X} → Sorted R xs → Rising xs
    sorted_rising h k l = sorted_apart h k (suc k) (omega arith) l

-- Moves as bytes and back.
pub entries_moves : (es : List Entry) → entries (move_bytes es) ≡ es
unfolding entries move_bytes
entries_moves [] = refl
entries_moves (e ∷ es) = ap {B = List Entry} (λ r. e ∷ r) (entries_moves es)

pub length_moves : (es : List Entry) → length (move_bytes es) ≡ 4 * length es
unfolding move_bytes
length_moves [] = refl
length_moves (e ∷ es) = omega (arith, length_moves es)

pub moves_entries : (u : List ℕ) (t : ℕ) → length u ≡ 4 * t → move_bytes (entries u) ≡ u
unfolding entries move_bytes
moves_entries [] t h = refl
moves_entries (p ∷ []) t h = absurd (omega arith)
moves_entries (p ∷ a ∷ []) t h = absurd (omega arith)
moves_entries (p ∷ a ∷ γ ∷ []) t h = absurd (omega arith)
moves_entries (p ∷ a ∷ γ ∷ q ∷ u) t h = ap {B = List ℕ} (λ r. p ∷ a ∷ γ ∷ q ∷ r) (moves_entries u (t - 1) (omega arith))

pub count_entries : (u : List ℕ) → length (entries u) ≡ length u / 4
unfolding entries
count_entries [] = refl
count_entries (p ∷ []) = refl
count_entries (p ∷ a ∷ []) = refl
count_entries (p ∷ a ∷ γ ∷ []) = refl
count_entries (p ∷ a ∷ γ ∷ q ∷ u) = omega (arith, count_entries u)

pub length_entries : (u : List ℕ) (t : ℕ) → length u ≡ 4 * t → length (entries u) ≡ t
length_entries u t h = omega (arith, count_entries u)

-- The move in the four bytes at place i.
abbrev pub move_in : List ℕ → ℕ → Entry
move_in u i = entry (byte u i) (byte u (i + 1)) (byte u (i + 2)) (byte u (i + 3))

move_drop : (n : ℕ) (u : List ℕ) (i : ℕ) → move_in (drop n u) i ≡ move_in u (n + i)
move_drop n u i = simp (get_or-drop, add_assoc)

move_take : (n : ℕ) (u : List ℕ) (i : ℕ) → i + 3 < n → move_in (take n u) i ≡ move_in u i
move_take n u i h = cc (at i (omega arith), at (i + 1) (omega arith), at (i + 2) (omega arith), at (i + 3) h)
  where
    at : (j : ℕ) → j < n → byte (take n u) j ≡ byte u j
    at j l = get_or-take n u j 0 l

pub part_move : (s : List ℕ) (place count i : ℕ) → i + 3 < count → move_in (part s place count) i ≡ move_in s (place + i)
part_move s place count i h = move_take count (drop place s) i h ∙ move_drop place s i

-- Move k, counted from 0: it is there where its four bytes are.
pub entry_at : (u : List ℕ) (k : ℕ) → get_elem? (entries u) k ≡ cond (ltb k (length u / 4)) (some (move_in u (4 * k))) none
unfolding entries
entry_at [] k = rw (le-ltb k (0 / 4) (omega arith))
entry_at (p ∷ []) k = rw (le-ltb k (1 / 4) (omega arith))
entry_at (p ∷ a ∷ []) k = rw (le-ltb k (2 / 4) (omega arith))
entry_at (p ∷ a ∷ γ ∷ []) k = rw (le-ltb k (3 / 4) (omega arith))
entry_at (p ∷ a ∷ γ ∷ q ∷ u) zero = rw (lt-ltb 0 (suc (suc (suc (suc (length u)))) / 4) (omega arith))
entry_at (p ∷ a ∷ γ ∷ q ∷ u) (suc k) =
    let e : suc (suc (suc (suc (length u)))) / 4 ≡ suc (length u / 4) = omega arith in
    let f : 4 * suc k ≡ 4 + 4 * k = omega arith in
    rw (e, leb-suc-suc (suc k) (length u / 4), f, ← move_drop 4 (p ∷ a ∷ γ ∷ q ∷ u) (4 * k)) (entry_at u k)

pub entries_get : (d : Entry) (u : List ℕ) (k : ℕ) → k < length u / 4 → get_or (entries u) k d ≡ move_in u (4 * k)
entries_get d u k h = got d (entries u) k (entry_at u k ∙ rw lt-ltb)

-- The moves are what stands in the bytes, four bytes each.
pub entry_here : (u : List ℕ) (k : ℕ) → k < length u / 4 → Memᴰ (move_in u (4 * k)) (entries u)
entry_here u k l = subst (λ e. Memᴰ e (entries u)) (entries_get _ u k l) (get_mem (entry 0 0 0 0) (entries u) k (omega (arith, count_entries u)))

pub entry_place : (u : List ℕ) {e : Entry} → Memᴰ e (entries u) → (k : ℕ) × (k < length u / 4) × (e ≡ move_in u (4 * k))
entry_place u m =
    let w = mem_get (entry 0 0 0 0) m in
    let l : w.0 < length u / 4 = omega (arith, w.1, count_entries u) in
    (w.0, l, w.2 ∙ entries_get _ u w.0 l)

pub quad_number : (s : List ℕ) (i : ℕ) → quad s i ≡ number (move_in s i)
quad_number s i = let e : i + 2 + 1 ≡ i + 3 = omega arith in rw e
