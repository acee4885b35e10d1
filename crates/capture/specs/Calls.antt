-- Document 01, "Places and their forms": what the exported calls leave in lent memory and, where more than the number of a library's answer is needed, what they
-- answer; all of it by the calls of the libraries.
use Rattle.std.specs.Prelude.{ℕ, cond, List, ◌≡◌, ltb, ℤ, length}
use Rattle.std.proofs.Math.Option.{Option}
use Rattle.table.specs.Answers.{Answer, refused, answered}
use Rattle.table.specs.Calls.{for_table}
use Rattle.balance.specs.declared.Tally.{Tally}
use Rattle.reader.specs.Calls.{Reply, begin_call, letter_call, finish_call}
use Rattle.shortest.specs.Calls.{ShortestCall}
use Rattle.whole_log.specs.Calls.{log_call}
use Rattle.capture.specs.Numbers.{shown_number, heard_number}
use Rattle.capture.specs.State.{state_bytes, lent_words, with_words}

-- The call for a shortest log, a relation as that of the library is.
pub record ExportedShortest (s scratch out : List ℕ) (number : ℕ) (scratch_left out_after : List ℕ) : Type 0 where
  pub answer : Answer (Option ℕ)
  pub told : number ≡ shown_number answer
  pub meets : ShortestCall s scratch out answer scratch_left out_after

-- A call of a reader: the number of its answer, and the bytes of the state afterwards.
pub record Exported : Type 0 where
  pub number : ℕ
  pub bytes : List ℕ

-- Of too few bytes the answer is the number that refuses the table, and 7 for a good one; the bytes stay. Else the answer is that of the call on the words that the
-- bytes hold, and what it leaves of them is written back.
abbrev pub on_bytes : List ℕ → List ℕ → (List ℕ → Reply) → Exported
on_bytes s bytes call =
    cond (ltb (length bytes) state_bytes) (record { number = for_table s 7 (λ k. k); bytes = bytes })
    (record { number = heard_number (call (lent_words bytes)).answer; bytes = with_words bytes (call (lent_words bytes)).words })

abbrev pub exported_begin : List ℕ → List ℕ → Exported
exported_begin s bytes = on_bytes s bytes (begin_call s)

abbrev pub exported_letter : List ℕ → List ℕ → ℕ → Exported
exported_letter s bytes a = on_bytes s bytes (λ words. letter_call s words a)

abbrev pub exported_finish : List ℕ → List ℕ → Exported
exported_finish s bytes = on_bytes s bytes (finish_call s)

abbrev pub exported_log : List ℕ → List ℕ → List ℕ → Exported
exported_log s log bytes = on_bytes s bytes (log_call s log)

-- What the two numbers of a balance are afterwards: the answer's, or what they were where it is a refusal.
abbrev pub balance_after : Answer Tally → ℤ → ℤ
balance_after (refused k) old = old
balance_after (answered tally) old = tally.balance

abbrev pub lowest_after : Answer Tally → ℤ → ℤ
lowest_after (refused k) old = old
lowest_after (answered tally) old = tally.lowest
