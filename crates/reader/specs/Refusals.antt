-- Document 01, "Refusal numbers", 11 to 14: which words do not stand for a state of a reader on a table, and which letters are refused.
use Rattle.std.specs.Prelude.{ℕ, zero, suc, ◌+◌, ◌-◌, ◌^◌, ◌<◌, ◌≤◌, Bool, cond, not, ◌&&◌, List, ◌≡◌, eqb, ltb, leb, get_or}
use Rattle.vpa.specs.Automaton.{opening}
use Rattle.vpa.specs.ReaderComputed.{ReaderState}
use Rattle.vpa.specs.TableOnDisk.{Table, state_count, letter_count, kind_in, is_kind?}
use Rattle.table.specs.Bytes.{all?}
use Rattle.table.specs.Logs.{longest_log}
use Rattle.table.specs.Refusals.{rung}
use Rattle.relation.specs.Relations.{Holds}
use Rattle.reader.specs.Layout.{row_count, deepest, state_size, taken_in, depth_in, stopped_in, block_place, letter_in, rows_in, depth_of}

-- 14, each reason by itself. One of the first three words is too large. A block's letter does not open in this table, or block 0 has a letter other than 0. Some
-- pair is not of the table's states. Past the blocks in use something is left.
pub data Broken (t : Table) (words : List ℕ) : Type 0 where
  many_taken : longest_log < taken_in words → Broken t words
  too_deep : deepest < depth_in words → Broken t words
  no_flag : 1 < stopped_in words → Broken t words
  first_letter : (letter_in words 0 ≡ 0 → ⊥) → Broken t words
  no_open_letter : (d : ℕ) → 0 < d → d ≤ depth_in words → ((letter_in words d < letter_count t) × (kind_in t (letter_in words d) ≡ opening) → ⊥) → Broken t words
  no_state : (d j k : ℕ) → d ≤ depth_in words → Holds (rows_in words d) j k → ((j < state_count t) × (k < state_count t) → ⊥) → Broken t words
  above_depth : (i : ℕ) → block_place (suc (depth_in words)) ≤ i → i < state_size → (get_or words i 0 ≡ 0 → ⊥) → Broken t words

-- The same as tests that compute (`legal_iff`).
unfoldable pub leading? : List ℕ → Bool
leading? words = leb (taken_in words) longest_log && leb (depth_in words) deepest && leb (stopped_in words) 1

unfoldable pub letter_word? : Table → ℕ → ℕ → Bool
letter_word? t zero a = eqb a 0
letter_word? t (suc d) a = ltb a (letter_count t) && is_kind? (kind_in t a) opening

-- With n states: no bit from n on in a row, and none at all in a row from n on.
unfoldable pub rows? : ℕ → List ℕ → Bool
rows? n r = all? (λ j. ltb (get_or r j 0) (cond (ltb j n) (2 ^ n) 1)) row_count

unfoldable pub block? : Table → List ℕ → ℕ → Bool
block? t words d = letter_word? t d (letter_in words d) && rows? (state_count t) (rows_in words d)

unfoldable pub zeros? : List ℕ → ℕ → ℕ → Bool
zeros? words from to = all? (λ i. eqb (get_or words (from + i) 0) 0) (to - from)

unfoldable pub legal? : Table → List ℕ → Bool
legal? t words = leading? words && (all? (block? t words) (suc (depth_in words)) && zeros? words (block_place (suc (depth_in words))) state_size)

-- 11 to 13, in this order, for a reader that runs: the number that refuses letter a, or 0. A letter that is not the table's; a log that would be too long; an
-- open at the greatest depth.
unfoldable pub too_deep? : Table → ReaderState → ℕ → Bool
too_deep? t r a = is_kind? (kind_in t a) opening && leb deepest (depth_of r)

unfoldable pub letter_verdict : Table → ReaderState → ℕ → ℕ
letter_verdict t r a = rung (ltb a (letter_count t)) 11 (rung (ltb r.taken longest_log) 12 (rung (not (too_deep? t r a)) 13 0))

-- Each of the three by itself. A reason counts only where there is none for a lower number.
pub data LetterReason (t : Table) (r : ReaderState) (a : ℕ) : ℕ → Type 0 where
  past_letters : letter_count t ≤ a → LetterReason t r a 11
  log_full : a < letter_count t → longest_log ≤ r.taken → LetterReason t r a 12
  open_too_deep : a < letter_count t → r.taken < longest_log → kind_in t a ≡ opening → deepest ≤ depth_of r → LetterReason t r a 13
