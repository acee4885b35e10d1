-- Document 01, "The reader", its last but one paragraph, and "Refusal numbers", 12: what the check of a whole log answers and leaves in the words, as a function
-- of what it is given. It is put together of the reader's own calls.
use Rattle.std.specs.Prelude.{ℕ, Bool, true, false, cond, List, [], ◌∷◌, ◌≡◌, ltb, length}
use Rattle.vpa.specs.ReaderComputed.{ReaderState, Heard, going, accepted, unfinished, stop_at, letter_state}
use Rattle.vpa.specs.TableOnDisk.{Table}
use Rattle.table.specs.Answers.{Answer, refused, answered}
use Rattle.table.specs.Logs.{longest_log}
use Rattle.reader.specs.Calls.{Reply, reply, with_state, begin_call, letter_call, finish_call}
use Rattle.reader.specs.Layout.{cleared}
use Rattle.reader.specs.Refusals.{letter_verdict, LetterReason}

-- The reader goes on.
unfoldable pub goes? : Answer Heard → Bool
goes? (refused k) = false
goes? (answered going) = true
goes? (answered accepted) = false
goes? (answered unfinished) = false
goes? (answered (stop_at place)) = false

-- After a reply: as long as the reader goes on, each letter, then finish. The first other answer ends it.
unfoldable pub followed : List ℕ → List ℕ → Reply → Answer Heard
followed s [] c = cond (goes? c.answer) (finish_call s c.words).answer c.answer
followed s (a ∷ log) c = cond (goes? c.answer) (followed s log (letter_call s c.words a)) c.answer

-- From begin on.
abbrev pub log_answer : List ℕ → List ℕ → List ℕ → Answer Heard
log_answer s log words = followed s log (begin_call s words)

-- 12 for the log itself comes before any letter and leaves the words, as 1 to 7 do; after every other answer they are zeros.
abbrev pub log_on : List ℕ → List ℕ → List ℕ → Reply
log_on s log words = cond (ltb longest_log (length log)) (reply (refused 12) words) (reply (log_answer s log words) (cleared words))

abbrev pub log_call : List ℕ → List ℕ → List ℕ → Reply
log_call s log words = with_state s words (log_on s log words)

-- A letter of the log is refused with k, and none before it is: it is met while the reader, whose state was r before these letters, still runs.
pub data RefusedIn (t : Table) : ReaderState → List ℕ → ℕ → Type 0 where
  refused_here : {r : ReaderState} {a k : ℕ} {log : List ℕ} → r.stopped ≡ false → LetterReason t r a k → RefusedIn t r (a ∷ log) k
  refused_later : {r : ReaderState} {a k : ℕ} {log : List ℕ} → r.stopped ≡ false → letter_verdict t r a ≡ 0 → RefusedIn t (letter_state t a r) log k → RefusedIn t r (a ∷ log) k
