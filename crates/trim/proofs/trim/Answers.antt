-- Refused for scratch, or by the answer for a checked table.
use Rattle.std.proofs.Common.{arith, ap, length, ◌∙◌, ◌≤◌, ◌≡◌}
use Rattle.table.specs.Answers.{refused}
use Rattle.nesting.specs.Scratch.{scratch_size}
use Rattle.nesting.proofs.Cleared.{scratch_size_lem, kept_cleared}
use Rattle.trim.specs.Answers.{trimmed_as}
use Rattle.trim.proofs.CallLaws.{Meets, meets_short, meets_written}
use Rattle.trim.proofs.trim.Goals.{Then-scratch-lt-SCRATCH, After-clear}
use Rattle.trim.proofs.trim.Goals as goal

short : (c : Then-scratch-lt-SCRATCH) → Meets c.args.table.now c.args.scratch.now c.args.out.now (refused 7) c.args.scratch.now c.args.out.now
short c =
    let same : c.in_ok-table.table.bytes.now ≡ c.args.table.now = ap (λ b. b.now) c.in_ok-table.ensures.same_bytes in
    meets_short _ _ _ (rw same at c.in_ok-table.table.good) (omega (arith, scratch_size_lem, c.if-scratch-lt-SCRATCH.true))

pub returns-then-scratch-lt-SCRATCH-clause-result_value : goal.returns-then-scratch-lt-SCRATCH-clause-result_value
returns-then-scratch-lt-SCRATCH-clause-result_value c = (short c).0

pub returns-then-scratch-lt-SCRATCH-clause-scratch_after : goal.returns-then-scratch-lt-SCRATCH-clause-scratch_after
returns-then-scratch-lt-SCRATCH-clause-scratch_after c = (short c).1.0

pub returns-then-scratch-lt-SCRATCH-clause-out_after : goal.returns-then-scratch-lt-SCRATCH-clause-out_after
returns-then-scratch-lt-SCRATCH-clause-out_after c = (short c).1.1

pub trim_checked-answer-requires : goal.trim_checked-answer-requires
trim_checked-answer-requires c = omega (arith, scratch_size_lem, c.if-scratch-lt-SCRATCH.false)

pub clear-requires : goal.clear-requires
clear-requires c = omega (arith, scratch_size_lem, c.if-scratch-lt-SCRATCH.false, c.trim_checked-answer.ensures.kept_from.long)

answered : (c : After-clear)
    → Meets c.args.table.now c.args.scratch.now c.args.out.now (trimmed_as c.trim_checked-answer.result) c.clear.new.scratch c.trim_checked-answer.new.out
answered c =
    let same : c.in_ok-table.table.bytes.now ≡ c.args.table.now = ap (λ b. b.now) c.in_ok-table.ensures.same_bytes in
    let r = c.trim_checked-answer.ensures in
    let long : scratch_size ≤ length c.args.scratch.now = omega (arith, scratch_size_lem, c.if-scratch-lt-SCRATCH.false) in
    rw (← same) (meets_written _ _ _ c.in_ok-table.table.good long (r.result_value, r.out_after) (c.clear.ensures ∙ kept_cleared r.kept_from (omega (arith, scratch_size_lem))))

pub returns-clause-result_value : goal.returns-clause-result_value
returns-clause-result_value c = (answered (goal.at.returns-clause-result_value c).After-clear).0

pub returns-clause-scratch_after : goal.returns-clause-scratch_after
returns-clause-scratch_after c = (answered (goal.at.returns-clause-scratch_after c).After-clear).1.0

pub returns-clause-out_after : goal.returns-clause-out_after
returns-clause-out_after c = (answered (goal.at.returns-clause-out_after c).After-clear).1.1
