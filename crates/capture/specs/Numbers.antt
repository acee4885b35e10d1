-- Document 01, "Places and their forms", of the calls that are exported: they answer with numbers. What the libraries answer is told by one number, a kind times 2^32
-- and a value. The kinds: 0 refused (the refusal's number), 1 going, 2 accepted, 3 unfinished, 4 stopped (the place), 5 written (how many bytes or letters), 6 no log,
-- 7 done. No kind but 0, 4 and 5 has a value other than 0. That a reader's number tells its answer: `heard_told` of proofs/CallLaws.
use Rattle.std.specs.Prelude.{ℕ, ◌+◌, ◌*◌}
use Rattle.std.proofs.Math.Option.{Option, none, some}
use Rattle.vpa.specs.ReaderComputed.{Heard, going, accepted, unfinished, stop_at}
use Rattle.table.specs.Answers.{Answer, refused, answered, Counts}
use Rattle.balance.specs.declared.Tally.{Tally}

abbrev pub kind_size : ℕ
kind_size = 4294967296

abbrev pub numbered : ℕ → ℕ → ℕ
numbered kind value = kind * kind_size + value

-- Of a check, which tells no counts.
abbrev pub check_number : Answer Counts → ℕ
check_number (refused k) = k
check_number (answered counts) = numbered 7 0

-- Of what writes a table.
abbrev pub written_number : Answer ℕ → ℕ
written_number (refused k) = k
written_number (answered count) = numbered 5 count

-- Of a shortest log. One without letters is written too, and differs from no log.
abbrev pub shown_number : Answer (Option ℕ) → ℕ
shown_number (refused k) = k
shown_number (answered none) = numbered 6 0
shown_number (answered (some count)) = numbered 5 count

-- Of a reader.
abbrev pub heard_number : Answer Heard → ℕ
heard_number (refused k) = k
heard_number (answered going) = numbered 1 0
heard_number (answered accepted) = numbered 2 0
heard_number (answered unfinished) = numbered 3 0
heard_number (answered (stop_at place)) = numbered 4 place

-- Of the balance, which is told in memory.
abbrev pub weighed_number : Answer Tally → ℕ
weighed_number (refused k) = k
weighed_number (answered tally) = numbered 7 0
