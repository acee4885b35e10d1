-- Document 01, "The reader", computed for a table: the reader's state but for the words it is kept in, and what its three calls make of it where
-- nothing is refused. A letter past the table's, an open too deep and a log too long are refused by the calls before these definitions are asked.
use Rattle.std.specs.Prelude.{ℕ, suc, ◌<◌, ◌≡◌, Bool, true, false, not, ◌&&◌, eqb}
use mathlib.Core.List.{List, [], ◌∷◌, Memᴰ}
use Rattle.vpa.specs.Automaton.{Kind, plain, opening, closing, plain_move, open_move, close_move}
use Rattle.vpa.specs.Lists.{Pair, sift, any?, below, square}
use Rattle.vpa.specs.TableOnDisk.{Table, state_count, kind_in, initial?, has?}
use Rattle.vpa.specs.PairsComputed.{initial_to_final?}
use Rattle.vpa.specs.Reader.{Rel, Reading, nothing, block}

-- The blocks, the deepest first, each with its open letter (depth 0 has none, and 0 in its place) and its pairs.
abbrev pub Blocks : Type 0
Blocks = List (ℕ × List Pair)

-- The pairs of a block after begin, after a plain and after an open letter a; and after a close letter b, S being the pairs below, a the top block's letter and
-- R its pairs.
unfoldable pub start_pairs : Table → List Pair
start_pairs t = sift (λ x. eqb x.0 x.1 && initial? t x.0) (square (state_count t))

unfoldable pub extend_pairs : Table → ℕ → List Pair → List Pair
extend_pairs t a R = sift (λ x. any? (λ y. eqb y.0 x.0 && has? t (plain_move y.1 a x.1)) R) (square (state_count t))

unfoldable pub open_pairs : Table → ℕ → List Pair → List Pair
open_pairs t a R = sift (λ x. eqb x.0 x.1 && any? (λ y. any? (λ γ. has? t (open_move y.1 a γ x.0)) (below t.mark_count)) R) (square (state_count t))

unfoldable pub join_pairs : Table → List Pair → ℕ → List Pair → ℕ → List Pair
join_pairs t S a R b = sift (λ x. any? (λ y. eqb y.0 x.0 && any? (λ z. any?
    (λ γ. has? t (open_move y.1 a γ z.0) && has? t (close_move z.1 b γ x.1)) (below t.mark_count)) R) S) (square (state_count t))

-- What a letter would make of the blocks. A close at depth 0 leaves none.
unfoldable pub candidate_blocks : Table → Kind → ℕ → Blocks → Blocks
candidate_blocks t plain a [] = []
candidate_blocks t plain a (k ∷ ks) = (k.0, extend_pairs t a k.1) ∷ ks
candidate_blocks t opening a [] = []
candidate_blocks t opening a (k ∷ ks) = (a, open_pairs t a k.1) ∷ k ∷ ks
candidate_blocks t closing b [] = []
candidate_blocks t closing b (k ∷ []) = []
candidate_blocks t closing b (k ∷ l ∷ ks) = (l.0, join_pairs t l.1 k.0 k.1 b) ∷ ks

-- The top block holds a pair.
unfoldable pub holds? : Blocks → Bool
holds? [] = false
holds? (k ∷ ks) = elim k.1 [ [] ↦ false | x ∷ xs ↦ true ]

-- At depth 0, with a pair of an initial first and a final second half.
unfoldable pub finished? : Table → Blocks → Bool
finished? t [] = false
finished? t (k ∷ []) = any? (initial_to_final? t) k.1
finished? t (k ∷ l ∷ ks) = false

-- The state: letters taken, stopped or running, the blocks. The depth is one less than the number of blocks.
pub record ReaderState : Type 0 where
  pub taken : ℕ
  pub stopped : Bool
  pub blocks : Blocks

-- What the reader answers to a letter, and at the end.
pub data Heard : Type 0 where
  going accepted unfinished : Heard
  stop_at : ℕ → Heard

-- Begin: each initial state paired with itself. Without any, the reader is stopped at once.
unfoldable pub begin_state : Table → ReaderState
begin_state t = let begun : Blocks = (0, start_pairs t) ∷ [] in record { taken = 0; stopped = not (holds? begun); blocks = begun }

-- A letter given to a running reader, which would make `next` of its blocks: where `next` has a pair, the letter is taken; where not, only `stopped` changes.
unfoldable pub settle : ReaderState → Blocks → Bool → ReaderState
settle r next true = record { taken = suc r.taken; stopped = false; blocks = next }
settle r next false = record { taken = r.taken; stopped = true; blocks = r.blocks }

-- A letter. A stopped reader changes nothing.
abbrev pub next_blocks : Table → ℕ → ReaderState → Blocks
next_blocks t a r = candidate_blocks t (kind_in t a) a r.blocks

unfoldable pub letter_state : Table → ℕ → ReaderState → ReaderState
letter_state t a r = elim r.stopped [ true ↦ r | false ↦ settle r (next_blocks t a r) (holds? (next_blocks t a r)) ]

-- The letters of a log, one after the other, from the state r on; and from begin on.
unfoldable pub letters_state : Table → List ℕ → ReaderState → ReaderState
letters_state t [] r = r
letters_state t (a ∷ w) r = letters_state t w (letter_state t a r)

abbrev pub state_after : Table → List ℕ → ReaderState
state_after t w = letters_state t w (begin_state t)

-- The answer of begin and of a letter, by the state afterwards: Going, or Stop, whose place is the number of letters taken.
unfoldable pub heard : ReaderState → Heard
heard r = elim r.stopped [ true ↦ stop_at r.taken | false ↦ going ]

-- The answer of finish.
unfoldable pub finish_heard : Table → ReaderState → Heard
finish_heard t r = elim r.stopped [ true ↦ stop_at r.taken | false ↦ elim (finished? t r.blocks) [ true ↦ accepted | false ↦ unfinished ] ]

-- The list R holds just the pairs of the relation S, and each of them begins at a state of the table.
pub record ListsPairs (t : Table) (R : List Pair) (S : Rel ℕ) : Type 0 where
  pub sound : (p q : ℕ) → Memᴰ (p, q) R → S p q
  pub complete : (p q : ℕ) → S p q → Memᴰ (p, q) R
  pub bound : (p q : ℕ) → S p q → p < state_count t

-- The blocks show the reading: as many blocks, with the same letters and just its pairs.
unfoldable pub Shows : Table → Blocks → Reading ℕ → Type 0
Shows t [] nothing = Unit {0}
Shows t [] (block c S k) = ⊥
Shows t (b ∷ bs) nothing = ⊥
Shows t (b ∷ bs) (block c S k) = (b.0 ≡ c) × ListsPairs t b.1 S × Shows t bs k
