-- Refusal 14: the test passes exactly where there is no reason to refuse, and what it tells of the words.
use Prim.Native.Nat.{ℕ, zero, suc, ◌+◌, ◌-◌, ◌<◌, ◌≤◌}
use mathlib.Core.Bool.{Bool, true, false, ◌&&◌}
use mathlib.Core.HLevel.{dec→stable}
use mathlib.Core.List.{List}
use mathlib.Core.Logic.{◌↔◌}
use mathlib.Core.Path.{◌≡◌, refl, sym, subst}
use native.Mathlib.Decide.{dec_lt}
use native.Mathlib.Numerals.{add-one}
use native.Mathlib.Omega.{arith}
use lib.Dec.{T, eqb, ltb, leb}
use lib.ListN.{length, get_or, get_or-eq_default}
use borrow.Author.Tests.{eqb-true, ltb-true, leb-true, le-leb}
use Rattle.vpa.specs.Automaton.{opening}
use Rattle.vpa.specs.TableOnDisk.{Table, state_count, letter_count, kind_in, is_kind?}
use Rattle.vpa.proofs.TableMoves.{kind_eq}
use Rattle.table.specs.Bytes.{part, all?}
use Rattle.table.specs.Logs.{longest_log}
use Rattle.table.proofs.All.{both, and_true, all_elim, all_intro}
use Rattle.table.proofs.Parts.{byte_past_part}
use Rattle.relation.specs.Relations.{Holds, RowsBelow, DigitsExactly, InSome}
use Rattle.relation.proofs.Relations.{no_digit}
use Rattle.reader.specs.Layout.{row_count, deepest, state_size, taken_in, depth_in, stopped_in, block_place, letter_in, rows_in}
use Rattle.reader.specs.Refusals.{Broken, many_taken, too_deep, no_flag, first_letter, no_open_letter, no_state, above_depth, leading?, letter_word?, rows?, block?, zeros?, legal?}
use Rattle.reader.specs.Steps.{Ready}
use Rattle.reader.proofs.Illegal.{illegal_broken}
use Rattle.reader.proofs.Numbers.{row_count_lem, deepest_is, state_size_lem}
use Rattle.reader.proofs.Rows.{row_past, rows_told, zeros_told, zeros_tell, zeros_gathered}
use Rattle.reader.proofs.Words.{rows_length}

-- Rows that name only the first n states.
pub rows_below : {n : ℕ} {r : List ℕ} → n ≤ 64 → length r ≡ 64 → rows? n r ≡ true → RowsBelow n r
rows_below {n} {r} small long h = record { rows = long; past = λ j l. by j l (dec_lt j 64) } where
  by : (j : ℕ) → n ≤ j → Dec (j < 64) → get_or r j 0 ≡ 0
  by j l (yes g) = row_past n r h j g l
  by j l (no g) = get_or-eq_default r 0 (omega arith)

-- The letter word: 0 in block 0, and in any other a letter that opens.
module _ (t : Table) where
  pub first_told : {a : ℕ} → letter_word? t 0 a ≡ true → a ≡ 0
  unfolding letter_word?
  first_told h = eqb-true _ _ h

  pub letter_told : (d : ℕ) {a : ℕ} → 0 < d → letter_word? t d a ≡ true → (a < letter_count t) × (kind_in t a ≡ opening)
  unfolding letter_word?
  letter_told zero l h = absurd (omega arith)
  letter_told (suc d) {a} l h =
      let w = both (ltb a (letter_count t)) (is_kind? (kind_in t a) opening) h in
      (ltb-true _ _ w.0, kind_eq _ _ (subst T (sym w.1) tt))

-- A block: its letter word and its rows.
module _ (t : Table) (words : List ℕ) (d : ℕ) where
  pub block_told : block? t words d ≡ true → (letter_word? t d (letter_in words d) ≡ true) × (rows? (state_count t) (rows_in words d) ≡ true)
  unfolding block?
  block_told h = both (letter_word? t d (letter_in words d)) (rows? (state_count t) (rows_in words d)) h

-- Rows of words are no more than 64.
row_inside : (words : List ℕ) (d : ℕ) {j k : ℕ} → Holds (rows_in words d) j k → j < 64
unfolding rows_in
row_inside words d {j} {k} h =
    dec→stable (dec_lt j 64) (λ l. no_digit k (byte_past_part words (suc (block_place d)) row_count j (omega (arith, row_count_lem))) h.digit)

-- The leading words.
module _ (words : List ℕ) where
  pub leading_told : leading? words ≡ true → (taken_in words ≤ longest_log) × (depth_in words ≤ deepest) × (stopped_in words ≤ 1)
  unfolding leading?
  leading_told h =
      let w = both (leb (taken_in words) longest_log && leb (depth_in words) deepest) (leb (stopped_in words) 1) h in
      let v = both (leb (taken_in words) longest_log) (leb (depth_in words) deepest) w.0 in
      (leb-true _ _ v.0, leb-true _ _ v.1, leb-true _ _ w.1)

  -- The depth is one that a block may have.
  pub leading_low : leading? words ≡ true → depth_in words ≤ 32
  leading_low h = omega (arith, (leading_told h).1, deepest_is)

  pub leading_tell : taken_in words ≤ longest_log → depth_in words ≤ deepest → stopped_in words ≤ 1 → leading? words ≡ true
  unfolding leading?
  leading_tell taken low stopped = and_true (and_true (le-leb _ _ taken) (le-leb _ _ low)) (le-leb _ _ stopped)

-- What two tests decide together, where the second is asked only if the first passes.
pub first_decides : {x a : Bool} (b : Bool) → x ≡ a && b → a ≡ false → x ≡ a
first_decides {x} b h e = let f : x ≡ false = rw e at h in cc

pub second_decides : {x a b : Bool} → x ≡ a && b → a ≡ true → x ≡ b
second_decides h e = rw e at h

-- A block is told by its words in place.
pub block_is : (t : Table) (words : List ℕ) (d : ℕ) {n at : ℕ} {a b : Bool} → n ≡ state_count t → block_place d ≡ at
    → letter_word? t d (get_or words at 0) ≡ a → rows? n (part words (at + 1) ((at + 65) - (at + 1))) ≡ b → block? t words d ≡ a && b
unfolding block? letter_in rows_in
block_is t words d {n} {at} e here f g =
    let count : (at + 65) - (at + 1) ≡ 64 = omega arith in
    rw (here, row_count_lem, ← e, ← add-one at, f, rw count at g)

-- What is ready: the rows of each block, and the letters of all but the first.
module _ (t : Table) (words : List ℕ) {depth : ℕ} (ready : Ready t words depth) where
  pub ready_long : (d : ℕ) → d ≤ depth → length (rows_in words d) ≡ 64
  ready_long d l = rows_length words d (omega (arith, ready.low)) ready.long

  pub ready_rows : (d : ℕ) → d ≤ depth → rows? (state_count t) (rows_in words d) ≡ true
  ready_rows d l = (block_told t words d (ready.block d l)).1

  pub ready_below : state_count t ≤ 64 → (d : ℕ) → d ≤ depth → RowsBelow (state_count t) (rows_in words d)
  ready_below small d l = rows_below small (ready_long d l) (ready_rows d l)

  pub ready_letter : (d : ℕ) → 0 < d → d ≤ depth → (letter_in words d < letter_count t) × (kind_in t (letter_in words d) ≡ opening)
  ready_letter d l g = letter_told t d l (block_told t words d (ready.block d g)).0

-- The test taken apart. The words may be too few for a state.
record Parts (t : Table) (words : List ℕ) : Type 0 where
  taken : taken_in words ≤ longest_log
  low : depth_in words ≤ deepest
  stopped : stopped_in words ≤ 1
  block : (d : ℕ) → d ≤ depth_in words → block? t words d ≡ true
  above : (i : ℕ) → block_place (suc (depth_in words)) ≤ i → i < state_size → get_or words i 0 ≡ 0

module _ (t : Table) (words : List ℕ) where
  legal_parts : legal? t words ≡ true → Parts t words
  unfolding legal?
  legal_parts h =
      let w = both (leading? words) (all? (block? t words) (suc (depth_in words)) && zeros? words (block_place (suc (depth_in words))) state_size) h in
      let v = both (all? (block? t words) (suc (depth_in words))) (zeros? words (block_place (suc (depth_in words))) state_size) w.1 in
      let l = leading_told words w.0 in
      record {
        taken = l.0;
        low = l.1;
        stopped = l.2;
        block = λ d m. all_elim (block? t words) (suc (depth_in words)) v.0 d (omega arith);
        above = zeros_told words _ _ v.1;
      }

  parts_legal : Parts t words → legal? t words ≡ true
  unfolding legal?
  parts_legal p =
      and_true (leading_tell words p.taken p.low p.stopped)
      (and_true (all_intro (block? t words) (suc (depth_in words)) (λ d l. p.block d (omega arith))) (zeros_tell words _ _ p.above))

  pub legal_ready : state_size ≤ length words → legal? t words ≡ true → Ready t words (depth_in words) × (taken_in words ≤ longest_log) × (stopped_in words ≤ 1)
  legal_ready long h = let p = legal_parts h in (record { long = long; low = p.low; block = p.block; above = p.above }, p.taken, p.stopped)

  pub ready_legal : Ready t words (depth_in words) → taken_in words ≤ longest_log → stopped_in words ≤ 1 → legal? t words ≡ true
  ready_legal ready taken stopped = parts_legal (record { taken = taken; low = ready.low; stopped = stopped; block = ready.block; above = ready.above })

  -- The same as the code finds it.
  pub legal_tested : {ok : Bool} {from x : ℕ} → leading? words ≡ true → all? (block? t words) (depth_in words + 1) ≡ ok → block_place (depth_in words + 1) ≡ from
      → DigitsExactly x (InSome words from 2148) → legal? t words ≡ ok && eqb x 0
  unfolding legal?
  legal_tested {ok} {from} h blocks here zeros = rw (h, ← add-one (depth_in words), blocks, here, state_size_lem, zeros_gathered words from 2148 zeros)

  pub legal_stops : leading? words ≡ true → all? (block? t words) (depth_in words + 1) ≡ false → legal? t words ≡ false
  unfolding legal?
  legal_stops h blocks = rw (h, ← add-one (depth_in words), blocks)

  pub not_leading : leading? words ≡ false → legal? t words ≡ false
  unfolding legal?
  not_leading h = rw h

  -- Each reason contradicts a part.
  unbroken : Parts t words → Broken t words → ⊥
  unbroken p (many_taken l) = omega (arith, p.taken)
  unbroken p (too_deep l) = omega (arith, p.low)
  unbroken p (no_flag l) = omega (arith, p.stopped)
  unbroken p (first_letter n) = n (first_told t (block_told t words 0 (p.block 0 (omega arith))).0)
  unbroken p (no_open_letter d l g n) = n (letter_told t d l (block_told t words d (p.block d g)).0)
  unbroken p (no_state d j k l h n) = n (rows_told _ _ (block_told t words d (p.block d l)).1 j k (row_inside words d h) h)
  unbroken p (above_depth i l g n) = n (p.above i l g)

  pub legal_iff : (legal? t words ≡ true) ↔ (Broken t words → ⊥)
  legal_iff = (λ e. unbroken (legal_parts e), by (legal? t words) refl) where
    by : (b : Bool) → legal? t words ≡ b → (Broken t words → ⊥) → b ≡ true
    by true e h = refl
    by false e h = absurd (h (illegal_broken t words e))
