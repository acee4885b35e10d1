-- Numbers as rows of binary digits.
use Rattle.std.specs.Prelude.{ℕ, zero, suc, ◌+◌, ◌/◌, ◌%◌, ◌^◌, Bool, cond, List, eqb}
use Rattle.std.specs.List.{filter, range_with_len}

-- The digit of x that is worth 2 ^ k.
unfoldable pub bit : ℕ → ℕ → ℕ
bit x k = x / 2 ^ k % 2

-- The sum of f over the numbers below n.
unfoldable pub total : ℕ → (ℕ → ℕ) → ℕ
total zero f = 0
total (suc n) f = f n + total n f

-- The number whose digits below n are 1 exactly where the test passes, and that has no others.
unfoldable pub digits : ℕ → (ℕ → Bool) → ℕ
digits zero f = 0
digits (suc n) f = cond (f n) (2 ^ n) 0 + digits n f

-- The places below 64 of the digits of x that are 1, from the lowest on.
unfoldable pub ones_of : ℕ → List ℕ
ones_of x = filter (λ k. eqb (bit x k) 1) (range_with_len 0 64)
