-- What the functions inside promise each other. They stand for no further statement of document 01.
use Rattle.std.specs.Prelude.{ℕ, suc, ◌+◌, ◌*◌, ◌-◌, ◌<◌, ◌≤◌, true, false, List, ◌∷◌, ◌⊎◌, ◌≡◌, length, get_or}
use Rattle.vpa.specs.Reader.{Joined}
use Rattle.vpa.specs.ReaderComputed.{ReaderState, letter_state}
use Rattle.vpa.specs.TableOnDisk.{Table, automaton}
use Rattle.table.specs.Bytes.{part}
use Rattle.relation.specs.Relations.{Holds, HoldsExactly, IsRelation, SecondHalf}
use Rattle.reader.specs.declared.Head.{Head}
use Rattle.reader.specs.Layout.{leading, leading_words, deepest, state_size, block_place, letter_in, rows_in, blocks_in}
use Rattle.reader.specs.Refusals.{block?}

-- The state of a head, with its blocks in the words. The leading words are not asked.
unfoldable pub state_with : Head → List ℕ → ReaderState
state_with head words = record { taken = head.taken; stopped = head.stopped; blocks = blocks_in words head.depth }

-- Words whose blocks to a depth are blocks on this table, with zeros above.
pub record Ready (t : Table) (words : List ℕ) (depth : ℕ) : Type 0 where
  pub long : state_size ≤ length words
  pub low : depth ≤ deepest
  pub block : (d : ℕ) → d ≤ depth → block? t words d ≡ true
  pub above : (i : ℕ) → block_place (suc depth) ≤ i → i < state_size → get_or words i 0 ≡ 0

-- Words before and after that differ in the blocks alone.
pub record BlocksChanged (before after : List ℕ) : Type 0 where
  pub long : length after ≡ length before
  pub rest : (i : ℕ) → (i < leading) ⊎ (state_size ≤ i) → get_or after i 0 ≡ get_or before i 0

-- A head and words after letter a: the next state stands there.
pub record Stepped (t : Table) (a : ℕ) (head : Head) (words : List ℕ) (next : Head) (after : List ℕ) : Type 0 where
  pub ready : Ready t after next.depth
  pub state : state_with next after ≡ letter_state t a (state_with head words)
  pub changed : BlocksChanged words after

-- Words before and after that differ from one place to before another: there they are what f says.
pub record Written (place count : ℕ) (f : ℕ → ℕ) (before after : List ℕ) : Type 0 where
  pub long : length after ≡ length before
  pub inside : (j : ℕ) → j < count → get_or after (place + j) 0 ≡ f j
  pub outside : (i : ℕ) → (i < place) ⊎ (place + count ≤ i) → get_or after i 0 ≡ get_or before i 0

-- The leading words that a head is put into.
unfoldable pub head_words : Head → List ℕ
head_words head = leading_words head.taken head.depth head.stopped

-- The rows of letter a among those of all letters.
unfoldable pub letter_rows : List ℕ → ℕ → List ℕ
letter_rows moves a = part moves (64 * a) 64

-- The pairs that letters give, on rows: after an open letter with the rows `moves`, and after a close letter b on the block of a depth.
pub record OpenedRows (r moves : List ℕ) (q q' : ℕ) : Type 0 where
  pub same : q ≡ q'
  pub by : ℕ
  pub half : SecondHalf r by
  pub leads : Holds moves by q

pub record ClosedRows (t : Table) (words : List ℕ) (depth b p s : ℕ) : Type 0 where
  pub deep : 0 < depth
  pub joined : Joined (automaton t) (Holds (rows_in words (depth - 1))) (letter_in words depth) (Holds (rows_in words depth)) b p s

-- Where the rows r of the pairs go: into the top block; with their letter into a block above it; into the block below, and the top block is cleared.
abbrev pub Extends : ℕ → List ℕ → List ℕ → List ℕ → Type 0
Extends depth r = Written (suc (block_place depth)) 64 (λ j. get_or r j 0)

abbrev pub Opens : ℕ → ℕ → List ℕ → List ℕ → List ℕ → Type 0
Opens a depth r = Written (block_place (suc depth)) 65 (λ j. get_or (a ∷ r) j 0)

pub record Closes (depth : ℕ) (r before after : List ℕ) : Type 0 where
  pub middle : List ℕ
  pub joins : Written (suc (block_place (depth - 1))) 64 (λ j. get_or r j 0) before middle
  pub clears : Written (block_place depth) 65 (λ j. 0) middle after

-- A letter that would give the pairs P: where there is one, their rows go where they belong, the letter is taken, and the depth becomes `depth`; where there is none,
-- the head is stopped and the words stay.
pub data Settled (P : ℕ → ℕ → Type 0) (Puts : List ℕ → List ℕ → List ℕ → Type 0) (head : Head) (depth : ℕ) (words : List ℕ) : Head → List ℕ → Type 0 where
  goes_on : (r after : List ℕ) → IsRelation r → HoldsExactly r P → (j k : ℕ) → P j k → Puts r words after
      → Settled P Puts head depth words (record { taken = head.taken + 1; depth = depth; stopped = false }) after
  stops : ((j k : ℕ) → P j k → ⊥) → Settled P Puts head depth words (record { taken = head.taken; depth = head.depth; stopped = true }) words
