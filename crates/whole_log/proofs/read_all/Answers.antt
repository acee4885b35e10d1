use Rattle.std.proofs.Common.{arith, ap, ◌∙◌}
use Rattle.table.specs.Answers.{answered}
use Rattle.table.proofs.CallLaws.{numbered_above}
use Rattle.nesting.proofs.Cleared.{kept_then}
use Rattle.whole_log.proofs.Following.{begin_kept, begin_stopped, answers_same, read_none, read_refused, read_stopped, read_more, read_ended, step_kept}
use Rattle.whole_log.proofs.read_all.Goals as goal

pub returns-then-head-clause-result_value : goal.returns-then-head-clause-result_value
returns-then-head-clause-result_value c =
    ap answered (rw c.if-head.true at c.heard.ensures)
    ∙ begin_stopped _ c.args.table.now.good _ _ _ c.requires.state_size_in_bounds.0 _ c.start-head.ensures.value c.start-head.ensures.state_after c.if-head.true

pub returns-then-head-clause-kept_from : goal.returns-then-head-clause-kept_from
returns-then-head-clause-kept_from c =
    begin_kept _ c.args.table.now.good c.args.log.now _ _ c.requires.state_size_in_bounds.0 _ c.start-head.ensures.value c.start-head.ensures.state_after

pub loop-letter-init : goal.loop-letter-init
loop-letter-init c =
    read_none _ c.args.table.now.good _ _ _ c.requires.state_size_in_bounds.0 _ c.start-head.ensures.value c.start-head.ensures.state_after c.if-head.false

pub returns-in_err-letter_verdict-clause-result_value : goal.returns-in_err-letter_verdict-clause-result_value
returns-in_err-letter_verdict-clause-result_value c =
    let refused =
    read_refused c.args.table.now.bytes.now c.args.table.now.good c.loop-letter.invariant c.loop-letter-test.true c.from-letter.ensures
    (c.in_err-letter_verdict.ensures c.loop-letter.state) (numbered_above _) in
    let same = answers_same _ c.args.table.now.good c.args.log.now _ _ c.requires.state_size_in_bounds.0 _ c.start-head.ensures.value c.start-head.ensures.state_after in
    grind (arith, refused, same)

pub returns-in_err-letter_verdict-clause-kept_from : goal.returns-in_err-letter_verdict-clause-kept_from
returns-in_err-letter_verdict-clause-kept_from c =
    kept_then (begin_kept _ c.args.table.now.good c.args.log.now _ _ c.requires.state_size_in_bounds.0 _ c.start-head.ensures.value c.start-head.ensures.state_after) c.loop-letter.invariant.kept

pub step-head-requires-clause-ready : goal.step-head-requires-clause-ready
step-head-requires-clause-ready c = let i = c.loop-letter.invariant in (i.ready, (i.runs, c.in_ok-letter_verdict.ensures _))

pub returns-then-head-2-clause-result_value : goal.returns-then-head-2-clause-result_value
returns-then-head-2-clause-result_value c =
    ap answered (rw c.if-head-2.true at c.heard-then-head-2.ensures)
    ∙ read_stopped _ c.args.table.now.good c.loop-letter.invariant c.loop-letter-test.true c.from-letter.ensures (c.in_ok-letter_verdict.ensures _) c.step-head.ensures c.if-head-2.true
    ∙ answers_same _ c.args.table.now.good _ _ _ c.requires.state_size_in_bounds.0 _ c.start-head.ensures.value c.start-head.ensures.state_after

pub returns-then-head-2-clause-kept_from : goal.returns-then-head-2-clause-kept_from
returns-then-head-2-clause-kept_from c =
    kept_then (begin_kept _ c.args.table.now.good c.args.log.now _ _ c.requires.state_size_in_bounds.0 _ c.start-head.ensures.value c.start-head.ensures.state_after)
    (step_kept _ c.args.table.now.good c.loop-letter.invariant c.loop-letter-test.true c.from-letter.ensures (c.in_ok-letter_verdict.ensures _) c.step-head.ensures)

pub loop-letter-preserved : goal.loop-letter-preserved
loop-letter-preserved c =
    read_more _ c.args.table.now.good c.loop-letter.invariant c.loop-letter-test.true c.from-letter.ensures (c.in_ok-letter_verdict.ensures _) c.step-head.ensures c.if-head-2.false

pub returns-clause-result_value : goal.returns-clause-result_value
returns-clause-result_value c =
    ap answered c.end.ensures ∙ read_ended _ c.args.table.now.good c.loop-letter.invariant (omega arith)
    ∙ answers_same _ c.args.table.now.good _ _ _ c.requires.state_size_in_bounds.0 _ c.start-head.ensures.value c.start-head.ensures.state_after

pub returns-clause-kept_from : goal.returns-clause-kept_from
returns-clause-kept_from c =
    kept_then (begin_kept _ c.args.table.now.good c.args.log.now _ _ c.requires.state_size_in_bounds.0 _ c.start-head.ensures.value c.start-head.ensures.state_after) c.loop-letter.invariant.kept
