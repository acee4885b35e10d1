-- Document 01, "What the build holds" and "Refusal numbers", of the shortest log: what the call answers and what it leaves in memory. A relation and no function,
-- since which log is written is left open where several are shortest; `shortest_once` of proofs/CallLaws says that nothing else is.
-- `Accepts` and `Shortest` are those of the crate `vpa`.
use Rattle.std.specs.Prelude.{ℕ, ◌<◌, ◌≤◌, List, ◌++◌, ◌≡◌, length, drop}
use Rattle.std.proofs.Math.Option.{Option, none, some}
use Rattle.vpa.specs.Automaton.{Accepts}
use Rattle.vpa.specs.Shortest.{Shortest}
use Rattle.vpa.specs.TableOnDisk.{Table, automaton}
use Rattle.table.specs.Answers.{Answer, refused, answered}
use Rattle.table.specs.Layout.{parse}
use Rattle.nesting.specs.Scratch.{with_scratch, scratch_after}
use Rattle.lengths.specs.Limit.{most_shown}

-- What a table is answered with, and the output afterwards, in this order: no log is accepted; those that are have too many letters (10); the output is shorter
-- than a shortest one (9); or a shortest one stands in front of the output, and what lies past it is as it was. The output stays as it was in the
-- first three cases.
pub data ShowsLog (t : Table) (out : List ℕ) : Answer (Option ℕ) → List ℕ → Type 0 where
  shows_none : ((w : List ℕ) → Accepts (automaton t) w → ⊥) → ShowsLog t out (answered none) out
  shows_long : {w : List ℕ} → Accepts (automaton t) w → ((v : List ℕ) → Accepts (automaton t) v → most_shown < length v) → ShowsLog t out (refused 10) out
  shows_no_room : {n : ℕ} → Shortest (automaton t) n → n ≤ most_shown → length out < n → ShowsLog t out (refused 9) out
  shows_log : {n : ℕ} {w out_after : List ℕ} → Accepts (automaton t) w → length w ≡ n → ((v : List ℕ) → Accepts (automaton t) v → n ≤ length v)
      → n ≤ most_shown → n ≤ length out → out_after ≡ w ++ drop n out → ShowsLog t out (answered (some n)) out_after

-- A refusal that leaves the output.
pub record Refuses (out : List ℕ) (answer : Answer (Option ℕ)) (out_after : List ℕ) (k : ℕ) : Type 0 where
  pub number : answer ≡ refused k
  pub kept : out_after ≡ out

-- The call: 1 to 6 for the bytes, 7 for scratch, then what the table says. `scratch_after` says what scratch holds then.
pub record ShortestCall (s scratch out : List ℕ) (answer : Answer (Option ℕ)) (scratch_left out_after : List ℕ) : Type 0 where
  pub answers : with_scratch s scratch (ShowsLog (parse s) out answer out_after) (Refuses out answer out_after)
  pub leaves : scratch_left ≡ scratch_after s scratch
