-- What is met along a chain, move by move.
use Rattle.std.specs.Prelude.{ℕ, ◌+◌, ◌/◌, ◌<◌, ◌≤◌, List, ◌≡◌, length, get_or, Option, MatchOption}
use Rattle.lengths.specs.Steps.{Chained}

-- Each of the first count moves leads to a later one, or past them.
abbrev pub Forward : ℕ → List ℕ → Type 0
Forward count links = (k : ℕ) → k < count → k < get_or links (64 + k) 0

-- The number of the next move comes, if it is one of the moves, and the one that it leads to is the next then.
abbrev pub GivesNext : List ℕ → ℕ → ℕ → Option ℕ → ℕ → Type 0
GivesNext links count next given next' = MatchOption given (count ≤ next) (λ k. (k ≡ next) × ((k < count) × (next' ≡ get_or links (64 + k) 0)))

-- Before the first step: what comes are the numbers of the moves that have x in the column.
pub record BeginsAlong (part : List ℕ) (column x : ℕ) (links : List ℕ) (count next : ℕ) : Type 0 where
  pub chained : Chained part column links
  pub all : count ≡ length part / 4
  pub first : next ≡ get_or links x 0
