-- Document 01, "Refusal numbers", of pairs and levels: what the call answers, as functions of what it is given. `scratch_after` says what it leaves in memory.
-- `pairs` and `levels` are the lists of the crate `vpa`. That in the rows (j, k) is held exactly if it is balanced, or live, is `nesting_pairs_iff` and
-- `nesting_levels_iff` of proofs/CallLaws.
use Rattle.std.specs.Prelude.{ℕ, List, length, replicate}
use Rattle.vpa.specs.Lists.{Pair, among}
use Rattle.vpa.specs.PairsComputed.{pairs, levels}
use Rattle.vpa.specs.TableOnDisk.{Table}
use Rattle.table.specs.Answers.{Answer, refused, answered}
use Rattle.table.specs.Layout.{parse}
use Rattle.relation.specs.Relations.{rows_of}
use Rattle.nesting.specs.Answers.{Sizes}
use Rattle.nesting.specs.Scratch.{with_scratch}

-- A list of pairs of numbers below 64 as rows: digit k of row j is 1 where (j, k) stands in the list, and 0 everywhere else.
unfoldable pub rows : List Pair → List ℕ
rows held = rows_of (λ j k. among (j, k) held)

-- The numbers of balanced pairs and of live levels.
abbrev pub sizes_answer : Table → Answer Sizes
sizes_answer t = answered (record { pairs = length (pairs t); levels = length (levels t) })

-- These, or the number that refuses.
abbrev pub nesting_answer : List ℕ → List ℕ → Answer Sizes
nesting_answer s scratch = with_scratch s scratch (sizes_answer (parse s)) refused

-- The rows of the balanced pairs and of the live levels; zeros where the call refuses.
abbrev pub nesting_pairs : List ℕ → List ℕ → List ℕ
nesting_pairs s scratch = with_scratch s scratch (rows (pairs (parse s))) (λ k. replicate 64 0)

abbrev pub nesting_levels : List ℕ → List ℕ → List ℕ
nesting_levels s scratch = with_scratch s scratch (rows (levels (parse s))) (λ k. replicate 64 0)
