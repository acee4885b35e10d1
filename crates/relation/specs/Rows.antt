-- What the functions that work on one row promise the others. They stand for no statement of document 01.
use Rattle.std.specs.Prelude.{ℕ, List, ◌↔◌, ◌⊎◌, ◌≡◌}
use Rattle.relation.specs.Digits.{bit}
use Rattle.relation.specs.Relations.{Holds, IsRelation}

-- l is reached from the row x: some digit of x is 1, say digit k, and s holds (k, l).
pub record Reached (x : ℕ) (s : List ℕ) (l : ℕ) : Type 0 where
  pub by : ℕ
  pub first : bit x by ≡ 1
  pub second : Holds s by l

-- s holds the pairs of r, and (k, j) for each digit k of x that is 1.
pub record Spread (r : List ℕ) (x j : ℕ) (s : List ℕ) : Type 0 where
  pub is : IsRelation s
  pub at : (a b : ℕ) → Holds s a b ↔ (Holds r a b ⊎ ((bit x a ≡ 1) × (b ≡ j)))
