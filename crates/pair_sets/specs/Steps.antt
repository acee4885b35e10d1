-- What the functions inside promise each other and the reader: moves by their letters, and what a close joins. They stand for no statement of document 01; what
-- a letter makes of a pair set is `Extended`, `Opened` and `Joined` of the crate `vpa`.
use Rattle.std.specs.Prelude.{ℕ, ◌+◌, ◌*◌, ◌<◌, ◌↔◌, ◌≡◌, T, length, get_or}
use mathlib.Core.List.{List, Memᴰ}
use Rattle.vpa.specs.TableOnDisk.{Table, entry, initial?, final?}
use Rattle.relation.specs.Digits.{bit}
use Rattle.relation.specs.Relations.{Holds}

-- A move from p by letter a with mark γ leads to q.
pub record Leads (t : Table) (p a γ q : ℕ) : Type 0 where
  pub stands : Memᴰ (entry p a γ q) t.moves

-- The same with some mark.
pub record LeadsBy (t : Table) (a p q : ℕ) : Type 0 where
  pub mark : ℕ
  pub leads : Leads t p a mark q

-- For each letter 64 rows: row p of letter a has the states to which it leads from p.
pub record ByLetter (t : Table) (rows : List ℕ) : Type 0 where
  pub long : length rows ≡ 2048
  pub at : (a p q : ℕ) → a < 32 → p < 64 → (bit (get_or rows (64 * a + p) 0) q ≡ 1) ↔ LeadsBy t a p q

-- From one of the states that the digits of x name, letter b with mark γ leads to s.
pub record Closes (t : Table) (x b γ s : ℕ) : Type 0 where
  pub by : ℕ
  pub among : bit x by ≡ 1
  pub closed : Leads t by b γ s

-- A letter a from q, a pair inside, and letter b from where it ends, with the same mark, to s.
pub record Linked (t : Table) (a : ℕ) (inside : List ℕ) (b q s : ℕ) : Type 0 where
  pub r : ℕ
  pub x : ℕ
  pub γ : ℕ
  pub opened : Leads t q a γ r
  pub held : Holds inside r x
  pub closed : Leads t x b γ s

-- The same from the states that the digits of halves name.
pub record LinkedFrom (t : Table) (halves a : ℕ) (inside : List ℕ) (b q s : ℕ) : Type 0 where
  pub from : bit halves q ≡ 1
  pub linked : Linked t a inside b q s

-- A pair from an initial state below n ends with k.
pub record FromInitial (t : Table) (n : ℕ) (pairs : List ℕ) (k : ℕ) : Type 0 where
  pub i : ℕ
  pub low : i < n
  pub begins : T (initial? t i)
  pub pair : Holds pairs i k

-- A digit of x names a final state.
pub record FinalAmong (t : Table) (x : ℕ) : Type 0 where
  pub f : ℕ
  pub among : bit x f ≡ 1
  pub ends : T (final? t f)
