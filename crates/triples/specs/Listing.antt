-- How states, marks and moves are listed in scratch before anything is written: rows of four numbers, one after the other. This stands for no statement
-- of document 01; it is what the functions inside promise each other.
use Rattle.std.specs.Prelude.{ℕ, ◌+◌, ◌*◌, ◌<◌, ◌≤◌, cond, List, map, ◌≡◌, eqb, leb, length, get_or}
use Rattle.vpa.specs.Lists.{Trio, sift, below}
use Rattle.vpa.specs.TableOnDisk.{Entry, entry}
use Rattle.table.specs.Layout.{move_bytes}
use Rattle.relation.specs.Digits.{bit}
use Rattle.nesting.specs.Scratch.{KeptFrom}

-- The digits of x below 64 that are 1, from the lowest on.
unfoldable pub digits_of : ℕ → List ℕ
digits_of x = sift (λ k. eqb (bit x k) 1) (below 64)

-- A row for each of the numbers ks, which stand last.
unfoldable pub rows_with : ℕ → ℕ → ℕ → List ℕ → List Entry
rows_with x y z ks = map (λ k. entry x y z k) ks

-- Three numbers as a row: a trimmed state or a trimmed mark.
unfoldable pub trio_rows : List Trio → List Entry
trio_rows xs = map (λ c. entry 0 c.0 c.1 c.2) xs

-- Numbers laid down in memory from a place on, and all else as it was.
pub record Laid (place : ℕ) (numbers before after : List ℕ) : Type 0 where
  pub long : length after ≡ length before
  pub at : (i : ℕ) → i < length numbers → get_or after (place + i) 0 ≡ get_or numbers i 0
  pub front : (i : ℕ) → i < place → get_or after i 0 ≡ get_or before i 0
  pub rest : (i : ℕ) → place + length numbers ≤ i → get_or after i 0 ≡ get_or before i 0

-- A count that stops one past the most.
unfoldable pub capped : ℕ → ℕ → ℕ
capped most count = cond (leb count most) count (most + 1)

-- Rows appended to count rows, and the total that is answered. With more than the most, nobody asks what scratch holds in the place of the rows.
pub record Appended (most : ℕ) (rows : List Entry) (before : List ℕ) (count : ℕ) (after : List ℕ) (total : ℕ) : Type 0 where
  pub counted : total ≡ capped most (count + length rows)
  pub kept : KeptFrom (4 * most) before after
  pub laid : total ≤ most → Laid (4 * count) (move_bytes rows) before after
