-- Document 01, "The reader" and "Places and their forms": a reader's words, lent as bytes.
use Rattle.std.specs.Prelude.{ℕ, zero, suc, ◌+◌, ◌*◌, ◌/◌, ◌%◌, List, [], ◌∷◌, ◌++◌, drop}
use Rattle.table.specs.Bytes.{byte}
use Rattle.reader.specs.Layout.{state_size}

-- The word in the eight bytes from a place on, the least significant byte first.
abbrev pub word_at : List ℕ → ℕ → ℕ
word_at bytes i =
    byte bytes i + 256 * byte bytes (i + 1) + 65536 * byte bytes (i + 2) + 16777216 * byte bytes (i + 3) + 4294967296 * byte bytes (i + 4)
    + 1099511627776 * byte bytes (i + 5) + 281474976710656 * byte bytes (i + 6) + 72057594037927936 * byte bytes (i + 7)

-- So many words, one after the other.
unfoldable pub words_from : List ℕ → ℕ → ℕ → List ℕ
words_from bytes i zero = []
words_from bytes i (suc n) = word_at bytes i ∷ words_from bytes (i + 8) n

-- The lowest bytes of a number, so many, the least significant first; and the eight bytes of each of some words.
unfoldable pub bytes_of : ℕ → ℕ → List ℕ
bytes_of zero x = []
bytes_of (suc n) x = x % 256 ∷ bytes_of n (x / 256)

unfoldable pub bytes_of_words : List ℕ → List ℕ
bytes_of_words [] = []
bytes_of_words (w ∷ words) = bytes_of 8 w ++ bytes_of_words words

-- How many bytes a state takes, its words, and where words are written back. What lies past them stays.
abbrev pub state_bytes : ℕ
state_bytes = 8 * state_size

abbrev pub lent_words : List ℕ → List ℕ
lent_words bytes = words_from bytes 0 state_size

abbrev pub with_words : List ℕ → List ℕ → List ℕ
with_words bytes words = bytes_of_words words ++ drop state_bytes bytes
