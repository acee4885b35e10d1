-- The values of the answers are small, so that a number tells its kind and its value.
use Prim.Native.Nat.{ℕ, ◌<◌, ◌≤◌}
use mathlib.Core.Bool.{Bool, true, false, cond}
use mathlib.Core.List.{List, [], ◌∷◌}
use mathlib.Core.Option.{Option, some}
use mathlib.Core.Path.{◌≡◌, refl, sym, ap, ◌∙◌}
use borrow.Author.Rules.{rules}
use native.Mathlib.Omega.{arith}
use lib.ListN.{length}
use Rattle.std.specs.Prelude.{Result, Ok, Err, IfOk}
use Rattle.vpa.specs.ReaderComputed.{ReaderState, Heard, going, accepted, unfinished, stop_at, begin_state, heard, finished?, finish_heard}
use Rattle.vpa.specs.TableOnDisk.{Table}
use Rattle.table.specs.Answers.{Answer, answered, written_as}
use Rattle.table.specs.declared.refusal.Refusal.{Refusal}
use Rattle.table.specs.Calls.{write_answer}
use Rattle.table.specs.Layout.{parse}
use Rattle.table.specs.Logs.{longest_log}
use Rattle.table.specs.Refusals.{whole?, version?, small?, sized?, lists?, moves?, rung, head_rungs, verdict}
use Rattle.table.proofs.CallLaws.{Write, no_table, no_room, writes, write_does}
use Rattle.table.proofs.Computed.{largest_size}
use Rattle.table.proofs.Logs.{longest_log_lem}
use Rattle.table.proofs.Tables.{good_storable, good_longest}
use Rattle.trim.specs.Calls.{trim_call}
use Rattle.trim.proofs.CallLaws.{trimmed_bytes, trim_answered}
use Rattle.lengths.specs.Limit.{most_shown}
use Rattle.shortest.specs.Calls.{ShortestCall}
use Rattle.shortest.proofs.CallLaws.{shortest_shown, length_exact}
use Rattle.reader.specs.Calls.{Reply, begin_call, letter_call, finish_call, IsState}
use Rattle.reader.specs.Layout.{state_in, taken_in}
use Rattle.reader.specs.Refusals.{LetterReason, past_letters, log_full, open_too_deep}
use Rattle.reader.proofs.CallLaws.{Replies, Begins, begin_no_table, begin_few_words, begins, begin_does, Hears, letter_no_table, letter_few_words, letter_no_state, letter_after_stop, letter_refused_for, letter_stop, letter_going, letter_does, Finishes, finish_no_table, finish_few_words, finish_no_state, finishes, finish_does}
use Rattle.reader.proofs.InPlace.{legal_fits}
use Rattle.whole_log.specs.Calls.{goes?, followed, log_call}
use Rattle.whole_log.proofs.CallLaws.{Checks, log_no_table, log_few_words, log_too_long, log_answers, log_does}
use Rattle.capture.specs.Numbers.{kind_size}
use Rattle.capture.specs.Steps.{value_of}

-- A place counts the letters taken.
stop_place : (stopped : Bool) (place : ℕ) (else : Heard) → value_of (answered else) ≡ 0 → value_of (answered (elim stopped [ true ↦ stop_at place | false ↦ else ])) ≤ place
stop_place true place else e = omega arith
stop_place false place else e = omega arith

end_place : (b : Bool) → value_of (answered (elim b [ true ↦ accepted | false ↦ unfinished ])) ≡ 0
end_place true = refl
end_place false = refl

heard_place : (r : ReaderState) → value_of (answered (heard r)) ≤ r.taken
unfolding heard
heard_place r = stop_place r.stopped r.taken going refl

finish_heard_place : (t : Table) (r : ReaderState) → value_of (answered (finish_heard t r)) ≤ r.taken
unfolding finish_heard
finish_heard_place t r = stop_place r.stopped r.taken _ (end_place (finished? t r.blocks))

state_taken : (s words : List ℕ) → IsState s words → (state_in words).taken ≤ longest_log
state_taken s words is = (legal_fits (parse s) words (good_storable s is.good).states is.legal).taken

state_place : (s words : List ℕ) → IsState s words → taken_in words ≤ longest_log
unfolding state_in
state_place s words is = state_taken s words is

begun_taken : (t : Table) → (begin_state t).taken ≤ longest_log
unfolding begin_state
begun_taken t = omega arith

-- A number that refuses a table is at most 6.
rung_low : (ok : Bool) (number rest : ℕ) → number ≤ 6 → rest ≤ 6 → rung ok number rest ≤ 6
rung_low true number rest l m = m
rung_low false number rest l m = l

verdict_low : (s : List ℕ) → verdict s ≤ 6
unfolding verdict head_rungs
verdict_low s =
    rung_low (whole? s) 1 _ (omega arith)
    (rung_low (version? s) 2 _ (omega arith)
    (rung_low (small? s) 3 _ (omega arith)
    (rung_low (sized? s) 4 _ (omega arith)
    (rung_low (lists? s) 5 _ (omega arith)
    (rung_low (moves? s) 6 _ (omega arith) (omega arith))))))

letter_reason_low : {t : Table} {r : ReaderState} {a k : ℕ} → LetterReason t r a k → k ≤ 13
letter_reason_low (past_letters m) = omega arith
letter_reason_low (log_full m f) = omega arith
letter_reason_low (open_too_deep m f o d) = omega arith

-- So no value of a reader is past the longest log: no place, and no number that refuses.
told : {c : Reply} {h : Answer Heard} {words : List ℕ} → Replies c h words → value_of h ≤ longest_log → value_of c.answer ≤ longest_log
told r l = rw r.0 l

pub begin_value : (s words : List ℕ) → value_of (begin_call s words).answer ≤ longest_log
begin_value s words = by (begin_does s words) where
  by : Begins s words → value_of (begin_call s words).answer ≤ longest_log
  by (begin_no_table n r) = told r (omega (arith, longest_log_lem, verdict_low s))
  by (begin_few_words z l r) = told r (omega (arith, longest_log_lem))
  by (begins z l r) = told r (omega (arith, heard_place (begin_state (parse s)), begun_taken (parse s)))

pub letter_value : (s words : List ℕ) (a : ℕ) → value_of (letter_call s words a).answer ≤ longest_log
letter_value s words a = by (letter_does s words a) where
  by : Hears s words a → value_of (letter_call s words a).answer ≤ longest_log
  by (letter_no_table n r) = told r (omega (arith, longest_log_lem, verdict_low s))
  by (letter_few_words z l r) = told r (omega (arith, longest_log_lem))
  by (letter_no_state z l b r) = told r (omega (arith, longest_log_lem))
  by (letter_after_stop is e r) = told r (state_place s words is)
  by (letter_refused_for is e k w r) = told r (omega (arith, longest_log_lem, letter_reason_low w))
  by (letter_stop is e v f r) = told r (state_place s words is)
  by (letter_going is e v f r) = told r (omega arith)

pub finish_value : (s words : List ℕ) → value_of (finish_call s words).answer ≤ longest_log
finish_value s words = by (finish_does s words) where
  by : Finishes s words → value_of (finish_call s words).answer ≤ longest_log
  by (finish_no_table n r) = told r (omega (arith, longest_log_lem, verdict_low s))
  by (finish_few_words z l r) = told r (omega (arith, longest_log_lem))
  by (finish_no_state z l b r) = told r (omega (arith, longest_log_lem))
  by (finishes is r) = told r (omega (arith, finish_heard_place (parse s) (state_in words), state_taken s words is))

either_value : (b : Bool) (x y : Answer Heard) → value_of x ≤ longest_log → value_of y ≤ longest_log → value_of (cond b x y) ≤ longest_log
either_value true x y l g = l
either_value false x y l g = g

followed_value : (s log : List ℕ) (c : Reply) → value_of c.answer ≤ longest_log → value_of (followed s log c) ≤ longest_log
unfolding followed
followed_value s [] c l = either_value (goes? c.answer) _ _ (finish_value s c.words) l
followed_value s (a ∷ log) c l = either_value (goes? c.answer) _ _ (followed_value s log (letter_call s c.words a) (letter_value s c.words a)) l

pub log_value : (s log words : List ℕ) → value_of (log_call s log words).answer ≤ longest_log
log_value s log words = by (log_does s log words) where
  by : Checks s log words → value_of (log_call s log words).answer ≤ longest_log
  by (log_no_table n e) = rw e (omega (arith, longest_log_lem, verdict_low s))
  by (log_few_words z l e) = rw e (omega (arith, longest_log_lem))
  by (log_too_long z l g e) = rw e (omega (arith, longest_log_lem))
  by (log_answers z l g e) = rw e (followed_value s log (begin_call s words) (begin_value s words))

-- A table that is written is no longer than the longest one, and a log that is shown has no more letters than are shown.
pub write_count : (s out : List ℕ) {n : ℕ} → write_answer s out ≡ answered n → n ≤ 4200
write_count s out {n} e = by (write_does s out) where
  by : Write s out → n ≤ 4200
  by (no_table m d o) = absurd (let c : ◌≡◌ {A = ℕ} 0 1 = cc in omega arith)
  by (no_room z l d o) = absurd (let c : ◌≡◌ {A = ℕ} 0 1 = cc in omega arith)
  by (writes z l d o) = let q : n ≡ length s = cc in omega (arith, largest_size, good_longest s z)

pub trim_count : (s scratch out : List ℕ) {n : ℕ} → (trim_call s scratch out).answer ≡ answered n → n ≤ 4200
trim_count s scratch out {n} e =
    let h = trim_answered s scratch out n e in
    omega (arith, largest_size, h.counted, good_longest (trimmed_bytes s) (ap verdict (sym h.front) ∙ h.passes))

pub shortest_count : (s scratch out : List ℕ) {answer : Answer (Option ℕ)} {left out_after : List ℕ} {n : ℕ} → ShortestCall s scratch out answer left out_after
    → answer ≡ answered (some n) → n ≤ 4096
unfolding most_shown
shortest_count s scratch out {n = n} call e =
    let h = shortest_shown s scratch out call n e in
    ((length_exact s scratch out call h.good h.lends n).0 e).1

-- So a number tells how many were written.
pub written_small : (result : Result ℕ Refusal) {answer : Answer ℕ} → written_as result ≡ answer → ((n : ℕ) → answer ≡ answered n → n ≤ 4200) → IfOk result (λ count. count < kind_size)
written_small (Ok count) e low = omega (arith, low count (sym e))
written_small (Err refusal) e low = search rules
