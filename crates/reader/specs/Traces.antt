-- Document 01, "The reader", and demand 3: a reader that begins on a table, is given no other, and whose words no one else writes.
use Rattle.std.specs.Prelude.{ℕ, ◌≤◌, true, false, List, [], ◌∷◌, ◌++◌, ◌≡◌, length, take}
use Rattle.vpa.specs.ReaderComputed.{ReaderState, Heard, going, begin_state, letter_state, state_after}
use Rattle.vpa.specs.TableOnDisk.{Table}
use Rattle.table.specs.Answers.{answered}
use Rattle.reader.specs.Calls.{begin_call, letter_call, finish_call}
use Rattle.reader.specs.Layout.{state_size}

-- Its words after begin and any calls since, and the letters taken: those that were answered with Going. A letter that is refused or stops the reader is not
-- taken, and a finish takes none. (Begin itself was not refused.) Words past the state's own are the caller's, and the state may be kept elsewhere in between.
pub data Trace (s : List ℕ) : List ℕ → List ℕ → Type 0 where
  begun : (words : List ℕ) (h : Heard) → (begin_call s words).answer ≡ answered h → Trace s (begin_call s words).words []
  takes : {words w : List ℕ} → Trace s words w → (a : ℕ) → (letter_call s words a).answer ≡ answered going → Trace s (letter_call s words a).words (w ++ (a ∷ []))
  keeps : {words w : List ℕ} → Trace s words w → (a : ℕ) → ((letter_call s words a).answer ≡ answered going → ⊥) → Trace s (letter_call s words a).words w
  elsewhere : {words w : List ℕ} → Trace s words w → (other : List ℕ) → state_size ≤ length other → take state_size words ≡ take state_size other → Trace s other w
  asks : {words w : List ℕ} → Trace s words w → Trace s (finish_call s words).words w

-- The state of such a reader after the letters w: it runs, and is what w makes of the first state; or it is stopped, by begin or by a letter after w, and but for
-- that it is the same.
pub data Standing (t : Table) (r : ReaderState) (w : List ℕ) : Type 0 where
  runs : r ≡ state_after t w → r.stopped ≡ false → Standing t r w
  stopped_by_begin : r ≡ begin_state t → r.stopped ≡ true → w ≡ [] → Standing t r w
  stopped_by_letter : (a : ℕ) → r ≡ letter_state t a (state_after t w) → r.stopped ≡ true → (state_after t w).stopped ≡ false → Standing t r w
