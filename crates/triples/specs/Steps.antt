-- What the functions inside promise each other and the trimmer: the trimmed states and marks, in the parts in which they are found, and rows of their
-- numbers. They stand for no further statement of document 01: the lists themselves are `trim_states` and `trim_marks` of the crate `vpa`.
use Rattle.std.specs.Prelude.{ℕ, ◌+◌, ◌*◌, ◌<◌, ◌≤◌, ◌&&◌, List, ◌++◌, map, ◌↔◌, ◌≡◌, T, length, get_or}
use Rattle.vpa.specs.Lists.{Trio, sift, each, below}
use Rattle.vpa.specs.PairsComputed.{opens_to?, closes_to?, pairs, levels}
use Rattle.vpa.specs.TableOnDisk.{Entry, Table}
use Rattle.vpa.specs.TrimComputed.{openers, no_trio, trim_states, trim_marks}
use Rattle.relation.specs.Relations.{Holds, holds?, HoldsExactly}
use Rattle.triples.specs.Listing.{digits_of, rows_with}
use Rattle.triples.specs.declared.Plan.{Plan}
use Rattle.triples.specs.declared.Trios.{Trios}
use Rattle.triples.specs.declared.Ways.{Ways}

-- LISTS READ BACK

-- The values numbered below count are one column of the rows in scratch.
pub record Column (scratch : List ℕ) (place count : ℕ) (values : List ℕ) : Type 0 where
  pub long : length values ≡ 64
  pub at : (i : ℕ) → i < count → get_or values i 0 ≡ get_or scratch (4 * i + place) 0

-- The trios of a list, of which there are at most 64, by number.
pub record Columns (xs : List Trio) (r : Trios) : Type 0 where
  pub count : r.count ≡ length xs
  pub most : r.count ≤ 64
  pub first : (i : ℕ) → i < r.count → get_or r.first i 0 ≡ (get_or xs i no_trio).0
  pub second : (i : ℕ) → i < r.count → get_or r.second i 0 ≡ (get_or xs i no_trio).1
  pub third : (i : ℕ) → i < r.count → get_or r.third i 0 ≡ (get_or xs i no_trio).2

-- STATES

-- The rows of the trimmed states, from the relations b of the balanced pairs and l of the live levels.
unfoldable pub states_on : List ℕ → ℕ → ℕ → List Entry
states_on b o q = rows_with 0 o q (sift (λ p. holds? b o p && holds? b p q) (below 64))

unfoldable pub states_from : List ℕ → List ℕ → ℕ → List Entry
states_from b l o = each (states_on b o) (digits_of (get_or l o 0))

unfoldable pub state_rows : List ℕ → List ℕ → List Entry
state_rows b l = each (states_from b l) (below 64)

-- MARKS

-- The way in and the way out of an inner level by the mark γ, as tests.
pub record InBy (t : Table) (γ o o' : ℕ) : Type 0 where
  pub test : T (opens_to? t (pairs t) o γ o')

pub record OutBy (t : Table) (γ q' q : ℕ) : Type 0 where
  pub test : T (closes_to? t (pairs t) q' γ q)

-- The trimmed marks over γ.
unfoldable pub marks_of : Table → ℕ → List Trio
marks_of t γ = map (λ x. (γ, x.0, x.1)) (openers t (pairs t) (levels t) γ)

-- For each mark of a list the ways in that its level has by it; and the ways out to its level.
pub record WayIn (t : Table) (ms : List Trio) (k o' : ℕ) : Type 0 where
  pub low : k < length ms
  pub test : T (opens_to? t (pairs t) (get_or ms k no_trio).1 (get_or ms k no_trio).0 o')

pub record WayOut (t : Table) (ms : List Trio) (k q' : ℕ) : Type 0 where
  pub low : k < length ms
  pub test : T (closes_to? t (pairs t) q' (get_or ms k no_trio).0 (get_or ms k no_trio).2)

pub record WaysOf (t : Table) (ms : List Trio) (w : Ways) : Type 0 where
  pub opens : HoldsExactly w.opens (WayIn t ms)
  pub closes : HoldsExactly w.closes (WayOut t ms)

-- From the ways of some marks to those of these and the marks over γ.
pub record MoreWays (t : Table) (γ : ℕ) (before after : Ways) : Type 0 where
  pub of : (xs : List Trio) → length xs ≡ before.count → WaysOf t xs before → WaysOf t (xs ++ marks_of t γ) after

-- Rows that are the old ones, but from one number to another those rows of r that scratch names.
pub record Gathers (rows : List ℕ) (from to : ℕ) (scratch : List ℕ) (place : ℕ) (r after : List ℕ) : Type 0 where
  pub new : (k : ℕ) → from ≤ k → k < to → get_or after k 0 ≡ get_or r (get_or scratch (4 * k + place) 0) 0
  pub before : (k : ℕ) → k < from → get_or after k 0 ≡ get_or rows k 0
  pub past : (k : ℕ) → to ≤ k → get_or after k 0 ≡ get_or rows k 0

-- NUMBERS OF STATES AND MARKS AS ROWS

-- There are at most 64 values, and each is below 64.
pub record Low (n : ℕ) (values : List ℕ) : Type 0 where
  pub most : n ≤ 64
  pub at : (i : ℕ) → i < n → get_or values i 0 < 64

-- Number j has the value v.
pub record NumberAt (values : List ℕ) (n v j : ℕ) : Type 0 where
  pub low : j < n
  pub is : get_or values j 0 ≡ v

-- j begins and ends where number i says.
pub record OnLevel (begun ending first second : List ℕ) (n i j : ℕ) : Type 0 where
  pub low : i < n
  pub begins : Holds begun (get_or first i 0) j
  pub ends : Holds ending (get_or second i 0) j

-- Number i of one pair of lists of values has the two values of number j of another.
pub record SameValues (first second : List ℕ) (n : ℕ) (first' second' : List ℕ) (n' i j : ℕ) : Type 0 where
  pub from : i < n
  pub to : j < n'
  pub begins : get_or first i 0 ≡ get_or first' j 0
  pub ends : get_or second i 0 ≡ get_or second' j 0

-- Number j has the far value v, and its third value is the near one.
pub record Turning (near far third : List ℕ) (n v j : ℕ) : Type 0 where
  pub low : j < n
  pub is : get_or far j 0 ≡ v
  pub here : get_or third j 0 ≡ get_or near j 0

-- State number j stands for p; i and j are on one level; state j is on the level of mark k.
pub record StandsFor (ss : List Trio) (p j : ℕ) : Type 0 where
  pub low : j < length ss
  pub is : (get_or ss j no_trio).2 ≡ p

pub record SameLevel (ss : List Trio) (i j : ℕ) : Type 0 where
  pub from : i < length ss
  pub to : j < length ss
  pub begins : (get_or ss i no_trio).0 ≡ (get_or ss j no_trio).0
  pub ends : (get_or ss i no_trio).1 ≡ (get_or ss j no_trio).1

pub record MarkLevel (ss ms : List Trio) (k j : ℕ) : Type 0 where
  pub mark : k < length ms
  pub state : j < length ss
  pub begins : (get_or ms k no_trio).1 ≡ (get_or ss j no_trio).0
  pub ends : (get_or ms k no_trio).2 ≡ (get_or ss j no_trio).1

-- State j begins an inner level that mark k can be pushed for; state i ends an inner level that mark k can be popped after.
pub record Entered (t : Table) (ss ms : List Trio) (k j : ℕ) : Type 0 where
  pub mark : k < length ms
  pub state : j < length ss
  pub begins : (get_or ss j no_trio).2 ≡ (get_or ss j no_trio).0
  pub way : T (closes_to? t (pairs t) (get_or ss j no_trio).1 (get_or ms k no_trio).0 (get_or ms k no_trio).2)

pub record Left (t : Table) (ss ms : List Trio) (i k : ℕ) : Type 0 where
  pub state : i < length ss
  pub mark : k < length ms
  pub ends : (get_or ss i no_trio).2 ≡ (get_or ss i no_trio).1
  pub way : T (opens_to? t (pairs t) (get_or ms k no_trio).1 (get_or ms k no_trio).0 (get_or ss i no_trio).0)

-- What all moves are listed by.
pub record Guides (t : Table) (here mark entered outer : List ℕ) : Type 0 where
  pub states : length (trim_states t) ≤ 64
  pub marks : length (trim_marks t) ≤ 64
  pub stands : HoldsExactly here (StandsFor (trim_states t))
  pub marked : (k : ℕ) → k < length (trim_marks t) → get_or mark k 0 ≡ (get_or (trim_marks t) k no_trio).0
  pub enters : HoldsExactly entered (Entered t (trim_states t) (trim_marks t))
  pub returns : HoldsExactly outer (MarkLevel (trim_states t) (trim_marks t))

pub record PlanOf (t : Table) (p : Plan) : Type 0 where
  pub guides : Guides t p.here p.mark p.entered p.outer
  pub count : p.count ≡ length (trim_states t)
  pub state : (i : ℕ) → i < p.count → get_or p.state i 0 ≡ (get_or (trim_states t) i no_trio).2
  pub level : HoldsExactly p.level (SameLevel (trim_states t))
  pub pushes : (i k : ℕ) → Holds p.pushes i k ↔ MarkLevel (trim_states t) (trim_marks t) k i
  pub pops : HoldsExactly p.pops (Left t (trim_states t) (trim_marks t))

-- For whatever table the columns and the ways are those of, the plan is.
pub record Plans (states marks : Trios) (ways : Ways) (p : Plan) : Type 0 where
  pub of : (t : Table) → Columns (trim_states t) states → Columns (trim_marks t) marks → WaysOf t (trim_marks t) ways → PlanOf t p
