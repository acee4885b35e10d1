use Rattle.std.proofs.Common.{arith, ap}
use Rattle.table.specs.Answers.{answered}
use Rattle.reader.proofs.Meeting.{meets_begun}
use Rattle.reader.proofs.Numbers.{state_size_lem}
use Rattle.reader.proofs.begin.Goals as goal

pub returns-clause-result_value : goal.returns-clause-result_value
returns-clause-result_value c =
    rw (← c.in_ok-table.ensures.same_bytes)
    (meets_begun _ _ c.in_ok-table.table.good (omega (arith, state_size_lem)) c.start.ensures.value (ap answered c.heard.ensures) c.start.ensures.state_after).0
