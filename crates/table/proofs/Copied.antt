-- After n turns of a loop that writes a list over the front of another.
use Prim.Native.Nat.{ℕ, zero, suc, ◌+◌, ◌<◌, ◌≤◌}
use mathlib.Core.List.{List, [], ◌∷◌, ◌++◌}
use mathlib.Core.Path.{◌≡◌, refl}
use native.Mathlib.Nat.{le_antisymm, not-suc-le-zero, le_of_suc-le-suc}
use native.Mathlib.Numerals.{add-one}
use lib.ListN.{length, set, take, drop, get_or}
use lib.Seq.{take-length}

copied_suc : (n : ℕ) (s d : List ℕ) → n < length s → n < length d → set (take n s ++ drop n d) n (get_or s n 0) ≡ take (suc n) s ++ drop (suc n) d
copied_suc n [] d l g = absurd (not-suc-le-zero l)
copied_suc n (x ∷ s) [] l g = absurd (not-suc-le-zero g)
copied_suc zero (x ∷ s) (y ∷ d) l g = refl
copied_suc (suc n) (x ∷ s) (y ∷ d) l g = rw (copied_suc n s d (le_of_suc-le-suc l) (le_of_suc-le-suc g))

pub copied_more : (n : ℕ) (s d : List ℕ) → n < length s → n < length d → set (take n s ++ drop n d) n (get_or s n 0) ≡ take (n + 1) s ++ drop (n + 1) d
copied_more n s d l g = rw add-one (copied_suc n s d l g)

pub copied_all : (n : ℕ) (s d : List ℕ) → n ≤ length s → length s ≤ n → take n s ++ drop n d ≡ s ++ drop (length s) d
copied_all n s d l g = rw (le_antisymm l g, take-length)
