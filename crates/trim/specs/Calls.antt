-- Document 01, "Refusal numbers", of trim: what the call answers and what it leaves in memory, as a function of what it is given.
-- `trim_table` is that of the crate `vpa`, `unparse` gives the bytes of a table.
use Rattle.std.specs.Prelude.{ℕ, Bool, cond, ◌&&◌, List, ◌++◌, ltb, leb, length, drop}
use Rattle.vpa.specs.TableOnDisk.{Table, state_count}
use Rattle.vpa.specs.TrimComputed.{trim_table}
use Rattle.table.specs.Answers.{Answer, refused, answered}
use Rattle.table.specs.Layout.{parse, unparse, most_states, most_marks, most_moves}
use Rattle.nesting.specs.Scratch.{with_scratch, scratch_after}

-- A table within the limits on states, marks and moves; where not, a trim refuses with 8. (Letters are those of the original.)
unfoldable pub within? : Table → Bool
within? t = leb (state_count t) most_states && (leb t.mark_count most_marks && leb (length t.moves) most_moves)

-- One thing for a table that is written to an output. Else what is made of the number that refuses: 8 for a table past the limits, then 9 for an output
-- shorter than its bytes.
abbrev pub written {ℓ} : {X : Type ℓ} → Table → List ℕ → (ℕ → X) → X → X
written t out refusal good = cond (within? t) (cond (ltb (length out) (length (unparse t))) (refusal 9) good) (refusal 8)

-- The answer for a trimmed table: how many bytes it has.
abbrev pub written_answer : Table → List ℕ → Answer ℕ
written_answer t out = written t out refused (answered (length (unparse t)))

-- The output: the bytes in front, and what lies past them as it was. All of it is as it was after a refusal.
abbrev pub written_out : Table → List ℕ → List ℕ
written_out t out = written t out (λ k. out) (unparse t ++ drop (length (unparse t)) out)

-- A call: its answer, and scratch and output afterwards.
pub record Outcome : Type 0 where
  pub answer : Answer ℕ
  pub scratch : List ℕ
  pub out : List ℕ

-- 1 to 6 for the bytes, 7 for scratch, then 8 and 9.
abbrev pub trim_call : List ℕ → List ℕ → List ℕ → Outcome
trim_call s scratch out = record {
  answer = with_scratch s scratch (written_answer (trim_table (parse s)) out) refused;
  scratch = scratch_after s scratch;
  out = with_scratch s scratch (written_out (trim_table (parse s)) out) (λ k. out);
}
