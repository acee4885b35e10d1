-- Document 01, "The table on disk": which bytes a table has, and which table bytes mean.
use Rattle.std.specs.Prelude.{ℕ, ◌+◌, ◌*◌, ◌≤◌, List, [], ◌∷◌, ◌++◌, length}
use Rattle.vpa.specs.TableOnDisk.{Entry, entry, Table, state_count, letter_count, IsTable}
use Rattle.table.specs.Bytes.{byte, word, word_bytes, part}

-- The head, eight bytes: L (two bytes), the version, n, m, g, t (two bytes).
abbrev pub length_field : List ℕ → ℕ
length_field s = word s 0

abbrev pub version_field : List ℕ → ℕ
version_field s = byte s 2

abbrev pub states_field : List ℕ → ℕ
states_field s = byte s 3

abbrev pub letters_field : List ℕ → ℕ
letters_field s = byte s 4

abbrev pub marks_field : List ℕ → ℕ
marks_field s = byte s 5

abbrev pub moves_field : List ℕ → ℕ
moves_field s = word s 6

-- Then the parts, one after the other: m kinds, n state bytes, t moves of four bytes each.
abbrev pub kinds_place : ℕ
kinds_place = 8

abbrev pub states_place : List ℕ → ℕ
states_place s = kinds_place + letters_field s

abbrev pub moves_place : List ℕ → ℕ
moves_place s = kinds_place + letters_field s + states_field s

abbrev pub kinds_part : List ℕ → List ℕ
kinds_part s = part s kinds_place (letters_field s)

abbrev pub states_part : List ℕ → List ℕ
states_part s = part s (states_place s) (states_field s)

abbrev pub moves_part : List ℕ → List ℕ
moves_part s = part s (moves_place s) (4 * moves_field s)

-- What L has to be: the bytes after the first two.
abbrev pub after_length : ℕ → ℕ → ℕ → ℕ
after_length n m t = 6 + m + n + 4 * t

-- Moves as bytes, four for each: from, letter, mark, to. Up to three bytes left over are no move.
unfoldable pub entries : List ℕ → List Entry
entries (p ∷ a ∷ γ ∷ q ∷ rest) = entry p a γ q ∷ entries rest
entries (p ∷ a ∷ γ ∷ []) = []
entries (p ∷ a ∷ []) = []
entries (p ∷ []) = []
entries [] = []

unfoldable pub move_bytes : List Entry → List ℕ
move_bytes [] = []
move_bytes (e ∷ es) = e.from ∷ e.letter ∷ e.mark ∷ e.to ∷ move_bytes es

-- The table that bytes mean. It asks nothing of the bytes: that is left to the refusals.
unfoldable pub parse : List ℕ → Table
parse s = record { kinds = kinds_part s; state_bytes = states_part s; mark_count = marks_field s; moves = entries (moves_part s) }

-- A table's bytes.
unfoldable pub unparse : Table → List ℕ
unparse t =
    word_bytes (after_length (state_count t) (letter_count t) (length t.moves))
    ++ (1 ∷ state_count t ∷ letter_count t ∷ t.mark_count ∷ [])
    ++ word_bytes (length t.moves)
    ++ t.kinds
    ++ t.state_bytes
    ++ move_bytes t.moves

-- The limits on n, m, g and t.
abbrev pub most_states : ℕ
most_states = 64

abbrev pub most_letters : ℕ
most_letters = 32

abbrev pub most_marks : ℕ
most_marks = 64

abbrev pub most_moves : ℕ
most_moves = 1024

-- The size of the largest table, with the two bytes of L.
abbrev pub most_bytes : ℕ
most_bytes = 2 + after_length most_states most_letters most_moves

-- A table that can be on disk: what a table has to be, and within the limits. Whoever makes tables shows this of them.
pub record Storable (t : Table) : Type 0 where
  pub table : IsTable t
  pub states : state_count t ≤ most_states
  pub letters : letter_count t ≤ most_letters
  pub marks : t.mark_count ≤ most_marks
  pub moves : length t.moves ≤ most_moves
