-- Document 01, "Pairs, levels, trimmed states" and "Places and their forms": a relation between numbers below 64 as an array of 64 rows of 64 digits.
use Rattle.std.specs.Prelude.{ℕ, zero, suc, ◌^◌, ◌<◌, ◌≤◌, Bool, true, false, List, [], ◌∷◌, ◌↔◌, ◌⊎◌, ◌≡◌, eqb, length, get_or}
use Rattle.relation.specs.Digits.{bit, total, digits}

-- The pair (j, k) is held: digit k of row j is 1.
pub record Holds (r : List ℕ) (j k : ℕ) : Type 0 where
  pub digit : bit (get_or r j 0) k ≡ 1

-- The test for it (`held_iff_test`).
unfoldable pub holds? : List ℕ → ℕ → ℕ → Bool
holds? r j k = eqb (bit (get_or r j 0) k) 1

-- The pairs held are those that P says, no more and no fewer. Of arrays of 64 words there is one such (`same_relation`).
pub record HoldsExactly (r : List ℕ) (P : ℕ → ℕ → Type 0) : Type 0 where
  pub at : (j k : ℕ) → Holds r j k ↔ P j k

-- What every array of 64 words is.
pub record IsRelation (r : List ℕ) : Type 0 where
  pub rows : length r ≡ 64
  pub fits : (j : ℕ) → get_or r j 0 < 2 ^ 64

-- 64 rows, none of which from number n on has a pair.
pub record RowsBelow (n : ℕ) (r : List ℕ) : Type 0 where
  pub rows : length r ≡ 64
  pub past : (j : ℕ) → n ≤ j → get_or r j 0 ≡ 0

-- No pair.
pub data NoPair (j k : ℕ) : Type 0 where

-- Each number below n with itself.
pub record Identity (n j k : ℕ) : Type 0 where
  pub same : j ≡ k
  pub low : j < n

-- Each number whose digit of x is 1 with itself.
pub record Diagonal (x j k : ℕ) : Type 0 where
  pub same : j ≡ k
  pub digit : bit x j ≡ 1

-- The pairs of r, and (a, b).
pub record With (r : List ℕ) (a b j k : ℕ) : Type 0 where
  pub is : Holds r j k ⊎ ((j ≡ a) × (k ≡ b))

-- One relation, then the other: (j, l) where r holds (j, k) and s holds (k, l).
pub record Joined (r s : List ℕ) (j l : ℕ) : Type 0 where
  pub by : ℕ
  pub first : Holds r j by
  pub second : Holds s by l

-- The pairs that one or the other holds.
pub record Either (r s : List ℕ) (j k : ℕ) : Type 0 where
  pub is : Holds r j k ⊎ Holds s j k

-- The pairs that both hold.
pub record Both (r s : List ℕ) (j k : ℕ) : Type 0 where
  pub first : Holds r j k
  pub second : Holds s j k

-- Each pair turned round.
pub record Turned (r : List ℕ) (j k : ℕ) : Type 0 where
  pub back : Holds r k j

-- The digits of x that are 1 are those that P says.
pub record DigitsExactly (x : ℕ) (P : ℕ → Type 0) : Type 0 where
  pub at : (k : ℕ) → (bit x k ≡ 1) ↔ P k

-- In one of the words from one place to before another digit k is 1.
pub record InSome (words : List ℕ) (from to k : ℕ) : Type 0 where
  pub place : ℕ
  pub after : from ≤ place
  pub before : place < to
  pub digit : bit (get_or words place 0) k ≡ 1

-- A pair of r ends with k.
pub record SecondHalf (r : List ℕ) (k : ℕ) : Type 0 where
  pub first : ℕ
  pub held : Holds r first k

-- What b tells: true where there is no A, false where there is one.
pub record TellsNone (b : Bool) (A : Type 0) : Type 0 where
  pub none : b ≡ true → A → ⊥
  pub some : b ≡ false → A

-- The number of pairs held.
unfoldable pub size_of : List ℕ → ℕ
size_of r = total 64 (λ j. total 64 (bit (get_or r j 0)))

-- f 0, f 1, and so on to f (n - 1).
unfoldable pub list_of : ℕ → (ℕ → ℕ) → List ℕ
list_of zero f = []
list_of (suc n) f = f 0 ∷ list_of n (λ i. f (suc i))

-- The one array that holds the pairs of numbers below 64 that pass the test.
unfoldable pub rows_of : (ℕ → ℕ → Bool) → List ℕ
rows_of f = list_of 64 (λ j. digits 64 (f j))
