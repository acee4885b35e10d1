-- Lists as finite sets, with tests that compute, and what it means that a list is in order.
use Rattle.std.specs.Prelude.{ℕ, zero, suc, ◌<◌, ◌≡◌, Bool, true, false, ◌&&◌, ◌||◌, ◌⊎◌, length, eqb}
use mathlib.Core.List.{List, [], ◌∷◌, ◌++◌, Memᴰ}

-- The elements that pass the test.
unfoldable pub sift {ℓ} : {X : Type ℓ} → (X → Bool) → List X → List X
sift f [] = []
sift f (x ∷ xs) = elim (f x) [ true ↦ x ∷ sift f xs | false ↦ sift f xs ]

-- Some element passes.
unfoldable pub any? {ℓ} : {X : Type ℓ} → (X → Bool) → List X → Bool
any? f [] = false
any? f (x ∷ xs) = f x || any? f xs

-- The lists that f gives of each element, one after the other.
unfoldable pub each {ℓ κ} : {X : Type ℓ} {Y : Type κ} → (X → List Y) → List X → List Y
each f [] = []
each f (x ∷ xs) = f x ++ each f xs

-- n numbers from k on.
unfoldable pub up_from : ℕ → ℕ → List ℕ
up_from zero k = []
up_from (suc n) k = k ∷ up_from n (suc k)

unfoldable pub below : ℕ → List ℕ
below n = up_from n 0

-- A pair of states; and three numbers, a trimmed state (o, q, p) or a trimmed mark (γ, o, q) of a table. (`Triple` and `MarkOn` are these over any
-- states and marks.)
abbrev pub Pair : Type 0
Pair = ℕ × ℕ

abbrev pub Trio : Type 0
Trio = ℕ × ℕ × ℕ

unfoldable pub same? : Pair → Pair → Bool
same? x y = eqb x.0 y.0 && eqb x.1 y.1

unfoldable pub among : Pair → List Pair → Bool
among x xs = any? (same? x) xs

-- All pairs of numbers below n, in order.
unfoldable pub square : ℕ → List Pair
square n = each (λ p. each (λ q. (p, q) ∷ []) (below n)) (below n)

unfoldable pub same_trio? : Trio → Trio → Bool
same_trio? x y = eqb x.0 y.0 && (eqb x.1 y.1 && eqb x.2 y.2)

-- The number of a trio in a list, counted from 0.
unfoldable pub position : Trio → List Trio → ℕ
position x [] = 0
position x (y ∷ ys) = elim (same_trio? x y) [ true ↦ 0 | false ↦ suc (position x ys) ]

-- One round: of all pairs, those held already and those that the rule gives from them.
unfoldable pub grow : (List Pair → Pair → Bool) → List Pair → List Pair → List Pair
grow rule all held = sift (λ x. among x held || rule held x) all

unfoldable pub rounds : (List Pair → Pair → Bool) → List Pair → ℕ → List Pair
rounds rule all zero = []
rounds rule all (suc k) = grow rule all (rounds rule all k)

-- As many rounds as there are pairs. A round that adds nothing is followed only by such, and no more rounds can add than there are pairs, so nothing is added
-- any more. For a rule that further pairs never make false this is the least set that the rule leaves as it is.
unfoldable pub saturate : (List Pair → Pair → Bool) → List Pair → List Pair
saturate rule all = rounds rule all (length all)

-- Each element stands in the relation R to all that follow it.
pub data Sorted {X : Type 0} (R : X → X → Type 0) : List X → Type 0 where
  sorted_none : Sorted R []
  sorted_more : {x : X} {xs : List X} → ((y : X) → Memᴰ y xs → R x y) → Sorted R xs → Sorted R (x ∷ xs)

-- Nothing stands twice.
pub data Distinct {X : Type 0} : List X → Type 0 where
  distinct_none : Distinct []
  distinct_more : {x : X} {xs : List X} → (Memᴰ x xs → ⊥) → Distinct xs → Distinct (x ∷ xs)

-- Pairs, and trios, by their first number, then by the second, then by the third.
abbrev pub PairBefore : Pair → Pair → Type 0
PairBefore x y = (x.0 < y.0) ⊎ ((x.0 ≡ y.0) × (x.1 < y.1))

abbrev pub TrioBefore : Trio → Trio → Type 0
TrioBefore x y = (x.0 < y.0) ⊎ ((x.0 ≡ y.0) × ((x.1 < y.1) ⊎ ((x.1 ≡ y.1) × (x.2 < y.2))))
