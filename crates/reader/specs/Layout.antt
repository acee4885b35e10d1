-- Document 01, "The reader", its first paragraph: the words that a reader's state is kept in.
use Rattle.std.specs.Prelude.{ℕ, zero, suc, ◌+◌, ◌*◌, ◌-◌, ◌/◌, ◌%◌, Bool, cond, List, [], ◌∷◌, ◌++◌, eqb, length, get_or, drop, replicate}
use Rattle.vpa.specs.Lists.{Pair, sift, square}
use Rattle.vpa.specs.ReaderComputed.{Blocks, ReaderState}
use Rattle.vpa.specs.Reader.{Reading, nothing, block}
use Rattle.table.specs.Bytes.{part}
use Rattle.relation.specs.Relations.{holds?, list_of, Holds}
use Rattle.nesting.specs.Calls.{rows}

-- The numbers of the layout: three leading words; a block for each depth to 32, of a letter word and 64 rows.
unfoldable pub leading : ℕ
leading = 3

unfoldable pub row_count : ℕ
row_count = 64

unfoldable pub block_size : ℕ
block_size = suc row_count

unfoldable pub deepest : ℕ
deepest = 32

unfoldable pub state_size : ℕ
state_size = leading + block_size * suc deepest

-- Word 0: letters taken. Word 1: the depth. Word 2: 1 if stopped.
abbrev pub taken_in : List ℕ → ℕ
taken_in words = get_or words 0 0

abbrev pub depth_in : List ℕ → ℕ
depth_in words = get_or words 1 0

abbrev pub stopped_in : List ℕ → ℕ
stopped_in words = get_or words 2 0

-- Where the block of a depth begins: with its letter word, and then come its rows.
unfoldable pub block_place : ℕ → ℕ
block_place d = leading + block_size * d

unfoldable pub letter_in : List ℕ → ℕ → ℕ
letter_in words d = get_or words (block_place d) 0

unfoldable pub rows_in : List ℕ → ℕ → List ℕ
rows_in words d = part words (suc (block_place d)) row_count

-- The pairs held in rows: (j, k) where the bit worth 2 ^ k of row j is 1.
unfoldable pub pairs_in : List ℕ → List Pair
pairs_in r = sift (λ x. holds? r x.0 x.1) (square row_count)

-- The state that the words stand for: the blocks to a depth, the deepest first.
abbrev pub block_in : List ℕ → ℕ → ℕ × List Pair
block_in words d = (letter_in words d, pairs_in (rows_in words d))

unfoldable pub blocks_in : List ℕ → ℕ → Blocks
blocks_in words zero = block_in words zero ∷ []
blocks_in words (suc d) = block_in words (suc d) ∷ blocks_in words d

unfoldable pub state_in : List ℕ → ReaderState
state_in words = record { taken = taken_in words; stopped = eqb (stopped_in words) 1; blocks = blocks_in words (depth_in words) }

-- The same as a reading, whose pairs are a relation.
unfoldable pub reading_in : List ℕ → ℕ → Reading ℕ
reading_in words zero = block (letter_in words zero) (Holds (rows_in words zero)) nothing
reading_in words (suc d) = block (letter_in words (suc d)) (Holds (rows_in words (suc d))) (reading_in words d)

-- And back. The words of one block; word j of the block of depth d, which has as many blocks below it (zeros where there is no such block); the leading words, and
-- all words of a state.
unfoldable pub block_words : ℕ × List Pair → List ℕ
block_words b = b.0 ∷ rows b.1

unfoldable pub word_of : Blocks → ℕ → ℕ → ℕ
word_of [] d j = 0
word_of (b ∷ bs) d j = cond (eqb d (length bs)) (get_or (block_words b) j 0) (word_of bs d j)

abbrev pub depth_of : ReaderState → ℕ
depth_of r = length r.blocks - 1

abbrev pub leading_words : ℕ → ℕ → Bool → List ℕ
leading_words taken depth stopped = taken ∷ depth ∷ cond stopped 1 0 ∷ []

unfoldable pub state_words : ReaderState → List ℕ
state_words r =
    leading_words r.taken (depth_of r) r.stopped ++ list_of (block_size * suc deepest) (λ i. word_of r.blocks (i / block_size) (i % block_size))

-- Words that a state was put into: further words are as they were.
unfoldable pub in_place : ReaderState → List ℕ → List ℕ
in_place r words = state_words r ++ drop state_size words

-- Words that were in use for a whole log: zeros in front, further words as they were.
unfoldable pub cleared : List ℕ → List ℕ
cleared words = replicate state_size 0 ++ drop state_size words
