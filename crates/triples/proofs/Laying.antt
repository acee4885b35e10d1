-- Laws of what is laid down in memory: numbers one after the other, and rows of four.
use Prim.Native.Nat.{ℕ, ◌+◌, ◌*◌, ◌-◌, ◌<◌, ◌≤◌, min}
use mathlib.Core.List.{List, [], ◌∷◌, ◌++◌, map-append}
use mathlib.Core.Path.{◌≡◌, refl, sym, subst, ◌∙◌}
use native.Mathlib.Decide.{dec_lt}
use native.Mathlib.Nat.{zero-add, add_assoc}
use native.Mathlib.Omega.{arith}
use borrow.Author.Tests.{le-leb, lt-leb}
use Rattle.std.proofs.lemmas.Grind.{common_steps}
use lib.ListN.{length, get_or, take, drop, length-append, length-drop, length-map, get_or-append}
use lib.Seq.{get_or-append-add, get_or-drop, ext_get_or}
use Rattle.vpa.specs.TableOnDisk.{Entry, entry}
use Rattle.table.specs.Layout.{move_bytes}
use Rattle.table.proofs.Entries.{entries_moves, length_moves, move_in, entries_get}
use Rattle.nesting.specs.Scratch.{KeptFrom}
use Rattle.nesting.proofs.Cleared.{kept_none, kept_then}
use Rattle.triples.specs.Listing.{rows_with, Laid, capped, Appended}

-- Past the first of two lists stand the numbers of the second.
get_past : (xs ys : List ℕ) (i : ℕ) → length xs ≤ i → get_or (xs ++ ys) i 0 ≡ get_or ys (i - length xs) 0
get_past xs ys i l = let e : length xs + (i - length xs) ≡ i = omega arith in rw e at (get_or-append-add xs ys (i - length xs) 0)

-- Numbers laid down, and more after them.
pub laid_none : (place : ℕ) (s : List ℕ) → Laid place [] s s
laid_none place s = record { long = refl; at = λ i l. absurd (omega arith); front = λ i l. refl; rest = λ i l. refl }

pub laid_then : {place p : ℕ} {xs ys a b c : List ℕ} → Laid place xs a b → p ≡ place + length xs → Laid p ys b c → Laid place (xs ++ ys) a c
laid_then {place} {p} {xs} {ys} {c = c} f e g = record {
  long = g.long ∙ f.long;
  at = λ i l. both i (omega (arith, length-append xs ys)) (dec_lt i (length xs));
  front = λ i l. g.front i (omega arith) ∙ f.front i l;
  rest = λ i l. g.rest i (omega (arith, length-append xs ys)) ∙ f.rest i (omega (arith, length-append xs ys));
} where
  both : (i : ℕ) → i < length xs + length ys → Dec (i < length xs) → get_or c (place + i) 0 ≡ get_or (xs ++ ys) i 0
  both i l (yes h) = g.front (place + i) (omega arith) ∙ f.at i h ∙ sym (get_or-append xs ys 0 i h)
  both i l (no h) =
      let q : p + (i - length xs) ≡ place + i = omega arith in
      rw q at (g.at (i - length xs) (omega arith)) ∙ sym (get_past xs ys i (omega arith))

-- From the start on, they are what the memory begins with.
pub laid_front : {xs before after : List ℕ} → Laid 0 xs before after → length xs ≤ length before → after ≡ xs ++ drop (length xs) before
laid_front {xs} {before} {after} h l =
    ext_get_or 0 after (xs ++ drop (length xs) before) (simp (length-append, length-drop) (omega arith)) (λ i m. both i (dec_lt i (length xs)))
  where
    both : (i : ℕ) → Dec (i < length xs) → get_or after i 0 ≡ get_or (xs ++ drop (length xs) before) i 0
    both i (yes m) = rw zero-add at (h.at i m) ∙ sym (get_or-append xs (drop (length xs) before) 0 i m)
    both i (no m) =
        let e : length xs + (i - length xs) ≡ i = omega arith in
        h.rest i (omega arith) ∙ sym (get_past xs (drop (length xs) before) i (omega arith) ∙ rw (get_or-drop, e))

-- What is kept from a place on.
pub laid_kept : {place p : ℕ} {xs a b : List ℕ} → Laid place xs a b → place + length xs ≤ p → KeptFrom p a b
laid_kept h l = record { long = h.long; rest = λ i m. h.rest i (omega arith) }

-- A capped count is the lesser of the count and one more than the most, and the other laws of it are arithmetic.
capped_min : (most x : ℕ) → capped most x ≡ min x (most + 1)
unfolding capped
capped_min most x = by (dec_lt most x) where
  by : Dec (most < x) → capped most x ≡ min x (most + 1)
  by (yes l) = rw (lt-leb x most l) (omega arith)
  by (no l) = rw (le-leb x most (omega arith)) (omega arith)

pub capped_low : (most x : ℕ) → capped most x ≤ most + 1
capped_low most x = omega (arith, capped_min most x)

pub capped_under : (most x : ℕ) → capped most x ≤ most → capped most x ≡ x
capped_under most x l = omega (arith, capped_min most x)

pub capped_fits : {most x : ℕ} → x ≤ most → capped most x ≡ x
capped_fits {most} {x} l = omega (arith, capped_min most x)

pub capped_past : {most x : ℕ} → most < x → capped most x ≡ most + 1
capped_past {most} {x} l = omega (arith, capped_min most x)

-- Rows appended, and more after them.
pub moves_append : (xs ys : List Entry) → move_bytes (xs ++ ys) ≡ move_bytes xs ++ move_bytes ys
unfolding move_bytes
moves_append [] ys = refl
moves_append (e ∷ xs) ys = rw (moves_append xs ys)

pub appended_none : {most count : ℕ} (s : List ℕ) → count ≤ most + 1 → Appended most [] s count s count
unfolding move_bytes
appended_none {most} {count} s l = record {
  counted = omega (arith, capped_min most (count + 0));
  kept = kept_none (4 * most) s;
  laid = λ m. laid_none (4 * count) s;
}

-- The second total is at most the most only where the first is, so then both are laid down.
pub appended_then : {most n m k : ℕ} {xs ys : List Entry} {a b c : List ℕ} → Appended most xs a n b m → Appended most ys b m c k
    → Appended most (xs ++ ys) a n c k
appended_then {most} {n} {m} {xs = xs} {ys} f g =
    let first = capped_min most (n + length xs) in
    let second = capped_min most (m + length ys) in
    record {
      counted = omega (arith, capped_min most (n + length (xs ++ ys)), length-append xs ys);
      kept = kept_then f.kept g.kept;
      laid = λ l. rw (moves_append xs ys) (laid_then (f.laid (omega arith)) (omega (arith, length_moves xs)) (g.laid l));
    }

-- Rows appended, that are listed under other names; and memory and a total that have other names.
pub appended_same : {most n m : ℕ} {xs ys : List Entry} {a b : List ℕ} → xs ≡ ys → Appended most xs a n b m → Appended most ys a n b m
appended_same {most} {n} {m} {a = a} {b} e h = subst (λ es. Appended most es a n b m) e h

pub appended_as : {most n m k : ℕ} {xs : List Entry} {a b c : List ℕ} → Appended most xs a n b m → c ≡ b → k ≡ m → Appended most xs a n c k
appended_as h e d = rw (e, d) h

pub appended_low : {most n m : ℕ} {xs : List Entry} {a b : List ℕ} → Appended most xs a n b m → m ≤ most + 1
appended_low {most} {n} {xs = xs} h = omega (arith, capped_low most (n + length xs))

pub appended_long : {most n m : ℕ} {xs : List Entry} {a b : List ℕ} → Appended most xs a n b m → length b ≡ length a
appended_long h = h.kept.long

pub appended_count : {most m : ℕ} {xs : List Entry} {a b : List ℕ} → Appended most xs a 0 b m → m ≤ most → m ≡ length xs
appended_count {most} {xs = xs} h l = omega (arith, capped_min most (0 + length xs))

pub appended_over : {most m : ℕ} {xs : List Entry} {a b : List ℕ} → Appended most xs a 0 b m → most < m → most < length xs
appended_over {most} {xs = xs} h l = omega (arith, capped_min most (0 + length xs))

-- Rows that do not fit are left out, and rows that do are laid down.
pub rows_skip : {most count : ℕ} {rows : List Entry} {s : List ℕ} → most < count + length rows → Appended most rows s count s (most + 1)
rows_skip {most} {s = s} l = record { counted = sym (capped_past l); kept = kept_none (4 * most) s; laid = λ m. absurd (omega arith) }

pub rows_laid : {most count : ℕ} {rows : List Entry} {a b : List ℕ} → count + length rows ≤ most → Laid (4 * count) (move_bytes rows) a b
    → Appended most rows a count b (count + length rows)
rows_laid {rows = rows} l h = record { counted = sym (capped_fits l); kept = laid_kept h (omega (arith, length_moves rows)); laid = λ m. h }

-- Numbers put in the place of as many are laid down there.
pub put_laid : (place count : ℕ) (numbers before : List ℕ) → length numbers ≡ count → place + count ≤ length before
    → Laid place numbers before (take place before ++ (numbers ++ drop count (drop place before)))
put_laid place count numbers before e l = grind (arith, common_steps)

-- A row more.
pub row_more : {place at : ℕ} (es : List Entry) {before after : List ℕ} (x y z w : ℕ) → Laid place (move_bytes es) before after
    → at ≡ place + 4 * length es → at + 4 ≤ length before
    → Laid place (move_bytes (es ++ (entry x y z w ∷ []))) before (take at after ++ ((x ∷ y ∷ z ∷ w ∷ []) ++ drop 4 (drop at after)))
unfolding move_bytes
row_more {at = at} es {after = after} x y z w h e l =
    rw (moves_append es (entry x y z w ∷ []))
    (laid_then h (omega (arith, length_moves es)) (put_laid at 4 (x ∷ y ∷ z ∷ w ∷ []) after refl (omega (arith, h.long))))

-- A row as it is read back.
row_bytes : (es : List Entry) (k : ℕ) → k < length es → (d : Entry) → get_or es k d ≡ move_in (move_bytes es) (4 * k)
row_bytes es k l d = rw (entries_moves es) at (entries_get d (move_bytes es) k (omega (arith, length_moves es)))

pub row_at : {place : ℕ} (es : List Entry) {before after : List ℕ} → Laid place (move_bytes es) before after → (k : ℕ) → k < length es → (d : Entry)
    → (get_or after (place + 4 * k) 0 ≡ (get_or es k d).from) × (get_or after (place + 4 * k + 1) 0 ≡ (get_or es k d).letter)
    × (get_or after (place + 4 * k + 2) 0 ≡ (get_or es k d).mark) × (get_or after (place + 4 * k + 3) 0 ≡ (get_or es k d).to)
row_at {place} es {after = after} h k l d =
    rw (row_bytes es k l d) (h.at (4 * k) (omega (arith, length_moves es)), byte 1 (omega arith), byte 2 (omega arith), byte 3 (omega arith))
  where
    byte : (j : ℕ) → j < 4 → get_or after (place + 4 * k + j) 0 ≡ get_or (move_bytes es) (4 * k + j) 0
    byte j m = rw add_assoc (h.at (4 * k + j) (omega (arith, length_moves es)))

pub front_moves : (es : List Entry) {before after : List ℕ} → Laid 0 (move_bytes es) before after → (i : ℕ) → i < 4 * length es
    → get_or after i 0 ≡ get_or (move_bytes es) i 0
front_moves es h i l = rw zero-add at (h.at i (omega (arith, length_moves es)))

-- Rows that differ in their last number.
pub rows_one : (x y z k : ℕ) (ks : List ℕ) → rows_with x y z (ks ++ (k ∷ [])) ≡ rows_with x y z ks ++ (entry x y z k ∷ [])
unfolding rows_with
rows_one x y z k ks = map-append (λ k. entry x y z k) ks (k ∷ [])

pub rows_length : (x y z : ℕ) (ks : List ℕ) → length (rows_with x y z ks) ≡ length ks
unfolding rows_with
rows_length x y z ks = length-map ks (λ k. entry x y z k)
