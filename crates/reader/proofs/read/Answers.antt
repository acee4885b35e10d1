use Rattle.std.proofs.Common.{arith, ap}
use Rattle.table.specs.Answers.{answered}
use Rattle.table.specs.Meaning.{meant}
use Rattle.table.proofs.CallLaws.{numbered_above}
use Rattle.table.proofs.Tables.{good_storable}
use Rattle.reader.proofs.Meeting.{legal_leading, head_ready, meets_stopped, meets_verdict, meets_letter}
use Rattle.reader.proofs.read.Goals as goal

pub head_in-head-requires : goal.head_in-head-requires
head_in-head-requires c = let p = c.requires.state_size_in_bounds in (p.0, legal_leading _ _ p.1)

pub returns-then-head-clause-result_value : goal.returns-then-head-clause-result_value
returns-then-head-clause-result_value c = (meets_stopped _ _ _ c.head_in-head.ensures c.if-head.true (ap answered c.heard.ensures)).0

pub returns-then-head-clause-state_after : goal.returns-then-head-clause-state_after
returns-then-head-clause-state_after c = (meets_stopped _ _ _ c.head_in-head.ensures c.if-head.true (ap answered c.heard.ensures)).1

pub returns-in_err-letter_verdict-clause-result_value : goal.returns-in_err-letter_verdict-clause-result_value
returns-in_err-letter_verdict-clause-result_value c =
    let h =
    (meets_verdict (meant c.args.table.now) c.args.state.now c.args.letter c.head_in-head.ensures c.if-head.false
    (c.in_err-letter_verdict.ensures c.args.state.now) (numbered_above _)).0 in
    grind (arith, h)

pub returns-in_err-letter_verdict-clause-state_after : goal.returns-in_err-letter_verdict-clause-state_after
returns-in_err-letter_verdict-clause-state_after c =
    (meets_verdict _ _ _ c.head_in-head.ensures c.if-head.false (c.in_err-letter_verdict.ensures _) (numbered_above _)).1

pub step-next-requires-clause-ready : goal.step-next-requires-clause-ready
step-next-requires-clause-ready c =
    let p = c.requires.state_size_in_bounds in
    (head_ready _ _ p.1 p.0 c.head_in-head.ensures, (c.if-head.false, c.in_ok-letter_verdict.ensures _))

pub returns-clause-result_value : goal.returns-clause-result_value
returns-clause-result_value c =
    (meets_letter _ _ _ c.head_in-head.ensures c.if-head.false (c.in_ok-letter_verdict.ensures _) (good_storable _ c.args.table.now.good).states
    c.step-next.ensures c.put_head.ensures (ap answered c.heard-2.ensures)).0

pub returns-clause-state_after : goal.returns-clause-state_after
returns-clause-state_after c =
    (meets_letter _ _ _ c.head_in-head.ensures c.if-head.false (c.in_ok-letter_verdict.ensures _) (good_storable _ c.args.table.now.good).states
    c.step-next.ensures c.put_head.ensures (ap answered c.heard-2.ensures)).1
