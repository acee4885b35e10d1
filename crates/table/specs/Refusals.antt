-- Document 01, "Refusal numbers", 1 to 6: when bytes are no table, and the number that says why.
use Rattle.std.specs.Prelude.{ℕ, ◌+◌, ◌*◌, ◌-◌, ◌<◌, ◌≤◌, ◌≡◌, Bool, cond, ◌&&◌, List, [], ◌∷◌, length, eqb, ltb, leb}
use Rattle.table.specs.Bytes.{byte, quad, part, StringBefore, all?}
use Rattle.table.specs.Layout.{length_field, version_field, states_field, letters_field, marks_field, moves_field, kinds_place, states_place, moves_place, after_length, most_states, most_letters, most_marks, most_moves}

-- The kind of letter a, the byte of state p.
abbrev pub kind_byte : List ℕ → ℕ → ℕ
kind_byte s a = byte s (kinds_place + a)

abbrev pub state_byte : List ℕ → ℕ → ℕ
state_byte s p = byte s (states_place s + p)

-- Move k as a string of four bytes, and its bytes one by one.
abbrev pub place_of_move : List ℕ → ℕ → ℕ
place_of_move s k = moves_place s + 4 * k

abbrev pub move_string : List ℕ → ℕ → List ℕ
move_string s k = part s (place_of_move s k) 4

abbrev pub move_from : List ℕ → ℕ → ℕ
move_from s k = byte s (place_of_move s k)

abbrev pub move_letter : List ℕ → ℕ → ℕ
move_letter s k = byte s (place_of_move s k + 1)

abbrev pub move_mark : List ℕ → ℕ → ℕ
move_mark s k = byte s (place_of_move s k + 2)

abbrev pub move_to : List ℕ → ℕ → ℕ
move_to s k = byte s (place_of_move s k + 3)

-- The table of refusal numbers, row by row: the reasons for each number.
pub data Reason (s : List ℕ) : ℕ → Type 0 where
  -- 1: fewer than eight bytes, or not two more than L
  too_short : length s < 8 → Reason s 1
  other_length : (length s ≡ length_field s + 2 → ⊥) → Reason s 1
  -- 2: another version
  other_version : (version_field s ≡ 1 → ⊥) → Reason s 2
  -- 3: one of the four counts past its limit
  many_states : most_states < states_field s → Reason s 3
  many_letters : most_letters < letters_field s → Reason s 3
  many_marks : most_marks < marks_field s → Reason s 3
  many_moves : most_moves < moves_field s → Reason s 3
  -- 4: L is not what follows from the counts
  other_size : (length_field s ≡ after_length (states_field s) (letters_field s) (moves_field s) → ⊥) → Reason s 4
  -- 5: in the list of kinds or in that of the states' bytes, a number that stands for nothing
  kind_past : (a : ℕ) → a < letters_field s → 2 < kind_byte s a → Reason s 5
  state_byte_past : (p : ℕ) → p < states_field s → 3 < state_byte s p → Reason s 5
  -- 6: a move whose from, letter, to, or mark is past the table's (a plain move's mark names nothing, but is 0); a move that does not stand above
  -- the one before
  from_past : (k : ℕ) → k < moves_field s → states_field s ≤ move_from s k → Reason s 6
  letter_past : (k : ℕ) → k < moves_field s → letters_field s ≤ move_letter s k → Reason s 6
  to_past : (k : ℕ) → k < moves_field s → states_field s ≤ move_to s k → Reason s 6
  mark_past :
      (k : ℕ) → k < moves_field s → move_letter s k < letters_field s → (kind_byte s (move_letter s k) ≡ 0 → ⊥) → marks_field s ≤ move_mark s k → Reason s 6
  plain_mark :
      (k : ℕ) → k < moves_field s → move_letter s k < letters_field s → kind_byte s (move_letter s k) ≡ 0 → (move_mark s k ≡ 0 → ⊥) → Reason s 6
  not_rising : (k : ℕ) → k + 1 < moves_field s → (StringBefore (move_string s k) (move_string s (k + 1)) → ⊥) → Reason s 6

-- The order in which reasons are looked for, and the number that is given: the first for which there is one, or 0 where there is none.
abbrev pub order : List ℕ
order = 1 ∷ 2 ∷ 3 ∷ 4 ∷ 5 ∷ 6 ∷ []

pub data Given (s : List ℕ) : List ℕ → ℕ → Type 0 where
  given_none : Given s [] 0
  given_here : {k : ℕ} {ks : List ℕ} → Reason s k → Given s (k ∷ ks) k
  given_later : {k j : ℕ} {ks : List ℕ} → (Reason s k → ⊥) → Given s ks j → Given s (k ∷ ks) j

-- The same as tests that compute: each holds exactly where there is no reason for its number.
unfoldable pub whole? : List ℕ → Bool
whole? s = leb 8 (length s) && eqb (length s) (length_field s + 2)

unfoldable pub version? : List ℕ → Bool
version? s = eqb (version_field s) 1

unfoldable pub small? : List ℕ → Bool
small? s =
    leb (states_field s) most_states
    && leb (letters_field s) most_letters
    && leb (marks_field s) most_marks
    && leb (moves_field s) most_moves

unfoldable pub sized? : List ℕ → Bool
sized? s = eqb (length_field s) (after_length (states_field s) (letters_field s) (moves_field s))

-- The byte at place + k is at most most.
unfoldable pub capped? : List ℕ → ℕ → ℕ → ℕ → Bool
capped? s place most k = leb (byte s (place + k)) most

unfoldable pub lists? : List ℕ → Bool
lists? s = all? (capped? s kinds_place 2) (letters_field s) && all? (capped? s (states_place s) 3) (states_field s)

-- Below which number the mark of a move with letter a is: a plain letter's is 0, another's is a mark of the table, and with no such letter there is
-- no move.
unfoldable pub mark_bound : List ℕ → ℕ → ℕ
mark_bound s a = cond (ltb a (letters_field s)) (cond (eqb (kind_byte s a) 0) 1 (marks_field s)) 0

unfoldable pub in_range? : List ℕ → ℕ → Bool
in_range? s k =
    ltb (move_from s k) (states_field s)
    && ltb (move_mark s k) (mark_bound s (move_letter s k))
    && ltb (move_to s k) (states_field s)

-- The same of a move's four bytes, of the number of states and the numbers that marks are below.
abbrev pub Fits : ℕ → List ℕ → List ℕ → Type 0
Fits states bounds move =
    (byte move 0 < states) × (byte move 2 < byte bounds (byte move 1)) × (byte move 3 < states)

-- Move k stands before the next, by the numbers in their four bytes.
unfoldable pub rises? : List ℕ → ℕ → Bool
rises? s k = ltb (quad s (place_of_move s k)) (quad s (place_of_move s k + 4))

unfoldable pub moves? : List ℕ → Bool
moves? s = all? (in_range? s) (moves_field s) && all? (rises? s) (moves_field s - 1)

-- One rung of the ladder: the number where its test fails, else what the rungs after it give.
abbrev pub rung : Bool → ℕ → ℕ → ℕ
rung ok number rest = cond ok rest number

-- The ladder, in the order of the numbers: the number that is given, or 0. A further number is one more rung between two. Its first rungs look at the
-- head and the number of bytes, and so find out what else there is to look at.
unfoldable pub head_rungs : List ℕ → ℕ → ℕ
head_rungs s rest =
    -- L against the slice
    rung (whole? s) 1
    -- the version
    (rung (version? s) 2
    -- the counts against their limits
    (rung (small? s) 3
    -- L against the counts
    (rung (sized? s) 4
    rest)))

unfoldable pub verdict : List ℕ → ℕ
verdict s =
    head_rungs s
    -- kinds and state bytes
    (rung (lists? s) 5
    -- the moves
    (rung (moves? s) 6
    0))
