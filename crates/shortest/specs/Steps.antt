-- What the functions inside promise each other: the least of the top lengths, and how a log of that length is written. They stand for no further statement of
-- document 01; the contract of the call says `Accepts` and `Shortest`.
use Rattle.std.specs.Prelude.{ℕ, suc, ◌+◌, ◌*◌, ◌-◌, ◌/◌, ◌<◌, ◌≤◌, List, [], ◌∷◌, ◌⊎◌, ◌≡◌, T, length, get_or, set, take, Option, Some, None, MatchOption}
use Rattle.vpa.specs.Automaton.{plain, opening, closing, close_move, Reaches, Accepts}
use Rattle.vpa.specs.Lists.{Trio}
use Rattle.vpa.specs.TableOnDisk.{Table, state_count, kind_in, initial?, final?, InTable, automaton}
use Rattle.table.specs.Bytes.{byte}
use Rattle.nesting.specs.Scratch.{KeptFrom}
use Rattle.lengths.specs.Limit.{over}
use Rattle.lengths.specs.Steps.{length_in}
use Rattle.shortest.specs.declared.Top.{Top}
use Rattle.shortest.specs.declared.Nest.{Nest}
use Rattle.shortest.specs.declared.Walk.{Walk}

-- TOPS: pairs from an initial to a final state.

-- The length of a pair; past every length where there is no pair.
abbrev pub held_at : Option Top → ℕ
held_at None = suc over
held_at (Some top) = top.moves

-- The least top length of those that begin below n, if any of them has a length.
pub record LeastTop (t : Table) (s : List ℕ) (n : ℕ) (top : Option Top) : Type 0 where
  pub found : (pair : Top) → top ≡ Some pair
      → ((T (initial? t pair.first) × T (final? t pair.last)) × (length_in s pair.first pair.last ≡ pair.moves)) × (pair.moves ≤ over)
  pub least : (i f : ℕ) → i < n → T (initial? t i) → T (final? t f) → length_in s i f ≤ over → held_at top ≤ length_in s i f

-- A pair from i, which is shorter than the bound.
pub record TopFrom (t : Table) (s : List ℕ) (i bound : ℕ) (top : Option Top) : Type 0 where
  pub pair : Top
  pub is : top ≡ Some pair
  pub first : pair.first ≡ i
  pub last : T (final? t pair.last)
  pub held : length_in s i pair.last ≡ pair.moves
  pub less : pair.moves < bound

-- The lesser of one top and of those from i to states below n.
pub record LesserTop (t : Table) (s : List ℕ) (n i : ℕ) (best top : Option Top) : Type 0 where
  pub is : (top ≡ best) ⊎ TopFrom t s i (held_at best) top
  pub most : held_at top ≤ held_at best
  pub least : (f : ℕ) → f < n → T (final? t f) → length_in s i f ≤ over → held_at top ≤ length_in s i f

-- THE LOG: written letter by letter. A level is left by reaching its goal; what is to be done after that stands on a stack of pending closes, each being the
-- letter, the state that it leads to, and the goal of the level around.

-- How many letters follow after the goal q is reached, with these marks on the run's stack and these closes pending.
pub data Owed (t : Table) (d : ℕ → ℕ → ℕ) : ℕ → List ℕ → List Trio → ℕ → Type 0 where
  owed_none : {q : ℕ} → T (final? t q) → Owed t d q [] [] 0
  owed_more : {q b γ r q' n k : ℕ} {σ : List ℕ} {pending : List Trio}
      → InTable t (close_move q b γ r) → q' < state_count t → d r q' < over → Owed t d q' σ pending n → k ≡ suc (d r q' + n)
      → Owed t d q (γ ∷ σ) ((b, r, q') ∷ pending) k

-- Pending closes in scratch, after the lengths, the outermost first; the list has the innermost first.
pub data Pending (s : List ℕ) : List Trio → ℕ → Type 0 where
  pending_none : Pending s [] 0
  pending_more : {b r q k : ℕ} {pending : List Trio}
      → get_or s (4096 + 3 * k) 0 ≡ b → get_or s (4096 + 3 * k + 1) 0 ≡ r → get_or s (4096 + 3 * k + 2) 0 ≡ q → Pending s pending k
      → Pending s ((b, r, q) ∷ pending) (suc k)

-- After the letters of log: a run on them has come to the state here, and what is left is as long as the least lengths say.
pub record Walking (t : Table) (d : ℕ → ℕ → ℕ) (s log : List ℕ) (walk : Walk) : Type 0 where
  pub marks : List ℕ
  pub pending : List Trio
  pub owed : ℕ
  pub reaches : Reaches (automaton t) log walk.here marks
  pub owing : Owed t d walk.goal marks pending owed
  pub stacked : Pending s pending walk.depth
  pub here_low : walk.here < state_count t
  pub goal_low : walk.goal < state_count t
  pub short : d walk.here walk.goal < over
  pub all : walk.left ≡ d walk.here walk.goal + owed

-- A letter is left, and there is room for it.
pub record Writing (t : Table) (s out : List ℕ) (place : ℕ) (walk : Walk) : Type 0 where
  pub walking : Walking t (length_in s) s (take place out) walk
  pub some : 0 < walk.left
  pub most : walk.left < over
  pub room : place < length out

-- One letter more: the first place + 1 letters of the output are on the way, one letter fewer is left, the lengths are as they were, and so is what lies past
-- the letter in the output and past the first 16384 numbers in scratch.
pub record WroteLetter (t : Table) (s out : List ℕ) (place : ℕ) (walk : Walk) (s' out' : List ℕ) (walk' : Walk) : Type 0 where
  pub walking : Walking t (length_in s) s' (take (suc place) out') walk'
  pub one : suc walk'.left ≡ walk.left
  pub lengths : take 4096 s' ≡ take 4096 s
  pub kept : KeptFrom 16384 s s'
  pub rest : KeptFrom (suc place) out out'

-- The first n letters of the output are an accepted log, and the rest is as it was.
pub record Wrote (t : Table) (n : ℕ) (out out' : List ℕ) : Type 0 where
  pub accepted : Accepts (automaton t) (take n out')
  pub rest : KeptFrom n out out'

-- A pending close laid down as number k.
abbrev pub with_pending : List ℕ → ℕ → ℕ → ℕ → ℕ → List ℕ
with_pending s k b r q = set (set (set s (4096 + 3 * k) b) (4096 + 3 * k + 1) r) (4096 + 3 * k + 2) q

-- The nearest state on a shortest way from p to q, other than p; it may be q.
pub record Via (n : ℕ) (d : ℕ → ℕ → ℕ) (p q r : ℕ) : Type 0 where
  pub low : r < n
  pub away : 0 < d p r
  pub between : d p r + d r q ≡ d p q
  pub nearest : (x : ℕ) → x < n → 0 < d p x → d p x + d x q ≡ d p q → d p r ≤ d p x

-- Move number k is plain, from p to q.
pub record PlainAt (t : Table) (part : List ℕ) (p q k : ℕ) : Type 0 where
  pub low : k < length part / 4
  pub from : byte part (4 * k) ≡ p
  pub of : kind_in t (byte part (4 * k + 1)) ≡ plain
  pub to : byte part (4 * k + 3) ≡ q

-- Move number k opens from p with mark γ, and v is two more than the length held from where it leads to q.
pub record OpenAt (t : Table) (part : List ℕ) (d : ℕ → ℕ → ℕ) (p γ q v k : ℕ) : Type 0 where
  pub low : k < length part / 4
  pub from : byte part (4 * k) ≡ p
  pub of : kind_in t (byte part (4 * k + 1)) ≡ opening
  pub mark : byte part (4 * k + 2) ≡ γ
  pub short : d (byte part (4 * k + 3)) q + 2 ≡ v

-- Move number j closes, and leads to r.
pub record CloseAt (t : Table) (part : List ℕ) (r j : ℕ) : Type 0 where
  pub low : j < length part / 4
  pub of : kind_in t (byte part (4 * j + 1)) ≡ closing
  pub to : byte part (4 * j + 3) ≡ r

-- Open move k fits close move j: it has its mark, and between the two is a pair that is shorter than v by two.
abbrev pub OpenFor : Table → List ℕ → (ℕ → ℕ → ℕ) → ℕ → ℕ → ℕ → ℕ → Type 0
OpenFor t part d p j v k = OpenAt t part d p (byte part (4 * j + 2)) (byte part (4 * j)) v k

-- An open move from p and a close move to r with its mark, and between them a pair that is shorter than v by two.
pub record NestAt (t : Table) (part : List ℕ) (d : ℕ → ℕ → ℕ) (p r v k j : ℕ) : Type 0 where
  pub closer : CloseAt t part r j
  pub opener : OpenFor t part d p j v k

-- A search among the moves: it finds one, or there is none.
abbrev pub MoveFound : (ℕ → Type 0) → Option ℕ → Type 0
MoveFound P found = MatchOption found ((k : ℕ) → P k → ⊥) P

abbrev pub NestFound : (ℕ → ℕ → Type 0) → Option Nest → Type 0
NestFound P found = MatchOption found ((k j : ℕ) → P k j → ⊥) (λ nest. P nest.opens nest.closes)

-- There is such a move, and there are such moves.
pub record SomePlain (t : Table) (part : List ℕ) (p q : ℕ) : Type 0 where
  pub k : ℕ
  pub at : PlainAt t part p q k

pub record SomeNest (t : Table) (part : List ℕ) (d : ℕ → ℕ → ℕ) (p r v : ℕ) : Type 0 where
  pub k : ℕ
  pub j : ℕ
  pub at : NestAt t part d p r v k j

-- The letter of such a plain move was written.
pub record WrotePlain (t : Table) (part : List ℕ) (p q place : ℕ) (out out' : List ℕ) : Type 0 where
  pub k : ℕ
  pub by : PlainAt t part p q k
  pub wrote : out' ≡ set out place (byte part (4 * k + 1))

-- A level was opened by such an open move, to be closed by such a close move.
pub record WroteOpen (t : Table) (part : List ℕ) (walk : Walk) (via moves place : ℕ) (s out s' out' : List ℕ) (walk' : Walk) : Type 0 where
  pub k : ℕ
  pub j : ℕ
  pub by : NestAt t part (length_in s) walk.here via moves k j
  pub close : s' ≡ with_pending s walk.depth (byte part (4 * j + 1)) via walk.goal
  pub wrote : out' ≡ set out place (byte part (4 * k + 1))
  pub goes : walk' ≡ record { here = byte part (4 * k + 3); goal = byte part (4 * j); depth = suc walk.depth; left = walk.left - 1 }
