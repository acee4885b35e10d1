-- Document 01, "The table on disk", "Refusal numbers" and "What the contracts have to settle": what the calls on a table's bytes answer and leave in
-- memory, as functions of what they are given.
use Rattle.std.specs.Prelude.{ℕ, cond, List, [], ◌++◌, length, drop, eqb, ltb}
use Rattle.std.proofs.Math.Option.{Option, none, some}
use Rattle.std.proofs.Math.ListN.{get_elem?}
use Rattle.vpa.specs.Automaton.{Kind}
use Rattle.vpa.specs.TableOnDisk.{Entry, kind_numbered}
use Rattle.table.specs.Answers.{Answer, refused, answered, Counts}
use Rattle.table.specs.Layout.{states_field, letters_field, marks_field, moves_field, moves_part, entries, parse}
use Rattle.table.specs.Refusals.{verdict}

-- One thing for bytes that are a table; for others what is made of the number that refuses them.
abbrev pub for_table {ℓ} : {X : Type ℓ} → List ℕ → X → (ℕ → X) → X
for_table s good refusal = cond (eqb (verdict s) 0) good (refusal (verdict s))

-- The same for a call that is lent memory for its work, of so many numbers at least: the number of the bytes comes first, then 7.
abbrev pub with_lent {ℓ} : {X : Type ℓ} → ℕ → List ℕ → List ℕ → X → (ℕ → X) → X
with_lent size s lent good refusal = for_table s (cond (ltb (length lent) size) (refusal 7) good) refusal

-- A check: the counts, as the head has them.
abbrev pub head_counts : List ℕ → Counts
head_counts s = record { n = states_field s; m = letters_field s; g = marks_field s; t = moves_field s }

abbrev pub check_answer : List ℕ → Answer Counts
check_answer s = for_table s (answered (head_counts s)) refused

-- The moves' part; nothing where `check` refuses.
abbrev pub moves_answer : List ℕ → List ℕ
moves_answer s = for_table s (moves_part s) (λ k. [])

-- Move k of a part, counted from 0.
abbrev pub move_answer : List ℕ → ℕ → Option Entry
move_answer part k = get_elem? (entries part) k

-- The kind of a number, where there is one.
unfoldable pub kind_of : Option ℕ → Option Kind
kind_of none = none
kind_of (some number) = some (kind_numbered number)

-- The kind of letter a, or that there is no such letter. Of bytes that are no table it is the kind of what stands in its place, a close for more than 2.
abbrev pub kind_answer : List ℕ → ℕ → Option Kind
kind_answer s a = kind_of (get_elem? (parse s).kinds a)

-- A write refuses what is no table, then, with 9, an output shorter than the table. Else the table's bytes stand at the front of the output; what
-- lies past them stays, and after a refusal all of it.
abbrev pub write_answer : List ℕ → List ℕ → Answer ℕ
write_answer s out = for_table s (cond (ltb (length out) (length s)) (refused 9) (answered (length s))) refused

abbrev pub write_out : List ℕ → List ℕ → List ℕ
write_out s out = for_table s (cond (ltb (length out) (length s)) out (s ++ drop (length s) out)) (λ k. out)
