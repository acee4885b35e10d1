-- Document 01, "The table on disk": what the bytes of a table mean, and which automaton that is. The bytes themselves are left to the crate `table`.
use Rattle.std.specs.Prelude.{ℕ, zero, suc, ◌%◌, ◌/◌, ◌≤◌, ◌<◌, ◌≡◌, Bool, true, false, ◌&&◌, ◌⊎◌, length, get_or, T, eqb}
use mathlib.Core.List.{List, Memᴰ}
use Rattle.vpa.specs.Automaton.{Kind, plain, opening, closing, Move, plain_move, open_move, close_move, letter, move_kind, Vpa}
use Rattle.vpa.specs.Lists.{any?, Sorted}

-- One entry of the list of moves: from, letter, mark, to.
pub record Entry : Type 0 where
  pub from : ℕ
  pub letter : ℕ
  pub mark : ℕ
  pub to : ℕ

abbrev pub entry : ℕ → ℕ → ℕ → ℕ → Entry
entry p a γ q = record { from = p; letter = a; mark = γ; to = q }

-- A table: the kind of each letter, the byte of each state, the number of marks, the moves.
pub record Table : Type 0 where
  pub kinds : List ℕ
  pub state_bytes : List ℕ
  pub mark_count : ℕ
  pub moves : List Entry

-- The number of states and of letters: n and m of the document.
abbrev pub state_count : Table → ℕ
state_count t = length t.state_bytes

abbrev pub letter_count : Table → ℕ
letter_count t = length t.kinds

-- A kind's number: plain is 0, open is 1, close is 2. By `IsTable` there is no kind over 2, and no move has a letter past the table's (which counts as plain here).
unfoldable pub kind_numbered : ℕ → Kind
kind_numbered zero = plain
kind_numbered (suc zero) = opening
kind_numbered (suc (suc n)) = closing

unfoldable pub kind_in : Table → ℕ → Kind
kind_in t a = kind_numbered (get_or t.kinds a 0)

-- A state's byte, at most 3 by `IsTable`: its bit 0 says initial, its bit 1 final. A number past the table's states is neither.
unfoldable pub initial? : Table → ℕ → Bool
initial? t p = eqb (get_or t.state_bytes p 0 % 2) 1

unfoldable pub final? : Table → ℕ → Bool
final? t p = eqb (get_or t.state_bytes p 0 / 2) 1

-- The moves of a table. A plain move's mark names nothing.
pub data InTable (t : Table) : Move ℕ ℕ → Type 0 where
  in_plain : {p a q : ℕ} (γ : ℕ) → Memᴰ (entry p a γ q) t.moves → kind_in t a ≡ plain → InTable t (plain_move p a q)
  in_open : {p a γ q : ℕ} → Memᴰ (entry p a γ q) t.moves → kind_in t a ≡ opening → InTable t (open_move p a γ q)
  in_close : {p a γ q : ℕ} → Memᴰ (entry p a γ q) t.moves → kind_in t a ≡ closing → InTable t (close_move p a γ q)

pub table_fits : (t : Table) (m : Move ℕ ℕ) → InTable t m → kind_in t (letter m) ≡ move_kind m
unfolding letter move_kind
table_fits t m (in_plain γ e k) = k
table_fits t m (in_open e k) = k
table_fits t m (in_close e k) = k

-- The automaton that a table describes. Its states and marks are numbers. No number past the table's states is initial or final, and by `IsTable`
-- no move has a number past the table's.
abbrev pub automaton : Table → Vpa ℕ ℕ
automaton t = record { kind = kind_in t; Initial = λ p. T (initial? t p); Final = λ p. T (final? t p); Has = InTable t; fits = table_fits t }

-- Entries as four-byte strings: by from, then letter, then mark, then to.
abbrev pub EntryBefore : Entry → Entry → Type 0
EntryBefore d e =
    (d.from < e.from) ⊎ ((d.from ≡ e.from)
    × ((d.letter < e.letter) ⊎ ((d.letter ≡ e.letter)
    × ((d.mark < e.mark) ⊎ ((d.mark ≡ e.mark)
    × (d.to < e.to))))))

-- A plain move's mark is 0; any other is below the number of marks g.
abbrev pub MarkFits : Kind → ℕ → ℕ → Type 0
MarkFits plain γ g = γ ≡ 0
MarkFits opening γ g = γ < g
MarkFits closing γ g = γ < g

-- What makes these lists a table, but for the limits on their sizes: kinds to 2, state bytes to 3; states, letters and marks of the moves in
-- range; the moves in strictly rising order.
pub record IsTable (t : Table) : Type 0 where
  pub kinds : (k : ℕ) → Memᴰ k t.kinds → k ≤ 2
  pub state_bytes : (b : ℕ) → Memᴰ b t.state_bytes → b ≤ 3
  pub from : (e : Entry) → Memᴰ e t.moves → e.from < state_count t
  pub letter : (e : Entry) → Memᴰ e t.moves → e.letter < letter_count t
  pub mark : (e : Entry) → Memᴰ e t.moves → MarkFits (kind_in t e.letter) e.mark t.mark_count
  pub to : (e : Entry) → Memᴰ e t.moves → e.to < state_count t
  pub rising : Sorted EntryBefore t.moves

-- The test for a move: its letter is of its kind, and an entry is this move.
unfoldable pub is_kind? : Kind → Kind → Bool
is_kind? plain plain = true
is_kind? plain opening = false
is_kind? plain closing = false
is_kind? opening plain = false
is_kind? opening opening = true
is_kind? opening closing = false
is_kind? closing plain = false
is_kind? closing opening = false
is_kind? closing closing = true

unfoldable pub is_move? : Move ℕ ℕ → Entry → Bool
is_move? (plain_move p a q) e = eqb e.from p && (eqb e.letter a && eqb e.to q)
is_move? (open_move p a γ q) e = (eqb e.from p && (eqb e.letter a && eqb e.to q)) && eqb e.mark γ
is_move? (close_move p a γ q) e = (eqb e.from p && (eqb e.letter a && eqb e.to q)) && eqb e.mark γ

unfoldable pub has? : Table → Move ℕ ℕ → Bool
has? t m = is_kind? (kind_in t (letter m)) (move_kind m) && any? (is_move? m) t.moves
