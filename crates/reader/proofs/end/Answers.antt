use Rattle.std.proofs.Common.{sym, subst, take, drop, ◌∙◌, ◌≡◌, ◌↔◌, ◌≤◌, ◌+◌, ◌-◌, T, Bool, false, List, ℕ}
use mathlib.Core.Bool.{cond}
use Rattle.vpa.specs.Reader.{FinishedBlock}
use Rattle.vpa.specs.ReaderComputed.{accepted, unfinished, finish_heard}
use Rattle.vpa.specs.TableOnDisk.{Table, state_count, automaton}
use Rattle.table.proofs.Tables.{good_storable}
use Rattle.relation.specs.Relations.{Holds}
use Rattle.reader.specs.declared.Head.{Head}
use Rattle.reader.specs.Layout.{block_place}
use Rattle.reader.specs.Steps.{state_with, Ready}
use Rattle.reader.proofs.LentRows.{lent_rows}
use Rattle.reader.proofs.Meeting.{end_stopped, end_deep, end_flat}
use Rattle.reader.proofs.end.Goals as goal

-- Where nothing is open the test of the rows decides.
tested : (t : Table) (head : Head) (words : List ℕ) {place : ℕ} (b : Bool) → state_count t ≤ 64 → Ready t words head.depth → head.stopped ≡ false → head.depth ≡ 0
    → block_place 0 ≡ place → T b ↔ FinishedBlock (automaton t) (Holds (take ((place + 1 + 64) - (place + 1)) (drop (place + 1) words)))
    → finish_heard t (state_with head words) ≡ cond b accepted unfinished
tested t head words {place} b small ready runs flat at found =
    end_flat t head words small ready runs flat b (subst (λ (r : List ℕ). T b ↔ FinishedBlock (automaton t) (Holds r)) (lent_rows words 0 at) found)

pub returns-then-head : goal.returns-then-head
returns-then-head c = sym (end_stopped _ _ _ c.if-head.true)

pub returns-then-is_open : goal.returns-then-is_open
returns-then-is_open c = sym (end_deep _ _ _ c.if-head.false (search))

pub returns-then-is_accepting : goal.returns-then-is_accepting
returns-then-is_accepting c =
    sym (tested _ _ _ _ (good_storable _ c.args.table.now.good).states c.requires c.if-head.false (search) c.place-top.ensures.0 c.is_accepting.ensures ∙ rw c.if-is_accepting.true)

pub returns-else-is_accepting : goal.returns-else-is_accepting
returns-else-is_accepting c =
    sym (tested _ _ _ _ (good_storable _ c.args.table.now.good).states c.requires c.if-head.false (search) c.place-top.ensures.0 c.is_accepting.ensures ∙ rw c.if-is_accepting.false)
