-- Document 01, "The reader", what its calls answer and leave in the words, as functions of what they are given. What a letter makes of a state that stands in the
-- words is `letter_state` of the crate `vpa`.
use Rattle.std.specs.Prelude.{ℕ, ◌≤◌, true, cond, List, ◌≡◌, eqb, length}
use Rattle.vpa.specs.ReaderComputed.{ReaderState, Heard, begin_state, letter_state, heard, finish_heard}
use Rattle.vpa.specs.TableOnDisk.{Table}
use Rattle.table.specs.Answers.{Answer, refused, answered}
use Rattle.table.specs.Calls.{with_lent}
use Rattle.table.specs.Layout.{parse}
use Rattle.table.specs.Refusals.{verdict}
use Rattle.reader.specs.Layout.{state_size, state_in, in_place}
use Rattle.reader.specs.Refusals.{legal?, letter_verdict}

-- What a call answers, and the words afterwards.
pub record Reply : Type 0 where
  pub answer : Answer Heard
  pub words : List ℕ

abbrev pub reply : Answer Heard → List ℕ → Reply
reply answer words = record { answer = answer; words = words }

-- One thing for bytes that are a table, with enough words. Else a refusal, which leaves the words as they were.
abbrev pub with_state : List ℕ → List ℕ → Reply → Reply
with_state s words good = with_lent state_size s words good (λ k. reply (refused k) words)

-- And where the words must stand for a state already, 14 if they do not.
abbrev pub with_legal : List ℕ → List ℕ → Reply → Reply
with_legal s words good = with_state s words (cond (legal? (parse s) words) good (reply (refused 14) words))

-- Begin: the first state is written, whatever stood there.
abbrev pub begin_on : Table → List ℕ → Reply
begin_on t words = reply (answered (heard (begin_state t))) (in_place (begin_state t) words)

abbrev pub begin_call : List ℕ → List ℕ → Reply
begin_call s words = with_state s words (begin_on (parse s) words)

-- A letter: a stopped reader answers the same Stop again and changes nothing; then 11, 12, 13; then the step.
unfoldable pub letter_on : Table → List ℕ → ReaderState → ℕ → Reply
letter_on t words r a =
    cond r.stopped (reply (answered (heard r)) words)
    (cond (eqb (letter_verdict t r a) 0) (reply (answered (heard (letter_state t a r))) (in_place (letter_state t a r) words))
    (reply (refused (letter_verdict t r a)) words))

abbrev pub letter_call : List ℕ → List ℕ → ℕ → Reply
letter_call s words a = with_legal s words (letter_on (parse s) words (state_in words) a)

-- Finish: nothing is changed.
abbrev pub finish_call : List ℕ → List ℕ → Reply
finish_call s words = with_legal s words (reply (answered (finish_heard (parse s) (state_in words))) words)

-- Words that stand for a state of a reader on the table of these bytes: then finish is not refused, and a letter only for itself.
pub record IsState (s words : List ℕ) : Type 0 where
  pub good : verdict s ≡ 0
  pub long : state_size ≤ length words
  pub legal : legal? (parse s) words ≡ true
