use Rattle.std.proofs.Common.{arith, sym}
use Rattle.table.proofs.Logs.{longest_log_lem}
use Rattle.reader.proofs.Numbers.{state_size_lem}
use Rattle.whole_log.proofs.Meeting.{meets_long, meets_read, clears}
use Rattle.whole_log.proofs.read_log.Goals as goal

pub returns-then-is_too_long-clause-result_value : goal.returns-then-is_too_long-clause-result_value
returns-then-is_too_long-clause-result_value c =
    rw (← c.in_ok-table.ensures.same_bytes)
    (meets_long _ c.args.log.now c.args.state.now c.in_ok-table.table.good (omega (arith, state_size_lem)) (omega (arith, longest_log_lem))).0

pub returns-clause-state_after : goal.returns-clause-state_after
returns-clause-state_after c =
    rw (← c.in_ok-table.ensures.same_bytes)
    (meets_read _ c.args.log.now c.args.state.now c.in_ok-table.table.good (omega (arith, state_size_lem)) (omega (arith, longest_log_lem)) c.read_all-answer.ensures.result_value
    (clears (omega (arith, state_size_lem)) c.read_all-answer.ensures.kept_from (sym state_size_lem) c.clear.ensures)).1
