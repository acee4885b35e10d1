use Rattle.std.proofs.Common.{arith, ◌∙◌, ◌<◌}
use Rattle.vpa.specs.TableOnDisk.{letter_count}
use Rattle.table.specs.Layout.{parse}
use Rattle.table.proofs.Logs.{longest_log_lem}
use Rattle.reader.specs.Steps.{state_with}
use Rattle.reader.specs.Refusals.{past_letters, log_full, open_too_deep}
use Rattle.reader.proofs.Letters.{open_told, none_told}
use Rattle.reader.proofs.Meeting.{head_depth}
use Rattle.reader.proofs.Numbers.{deepest_is}
use Rattle.reader.proofs.Verdicts.{reason_verdict, verdict_none}
use Rattle.reader.proofs.letter_verdict.Goals as goal
use Rattle.reader.proofs.letter_verdict.Goals.{else-is_deepest-via-then-is_deepest+else-is_of_kind, else-is_deepest-via-else-is_deepest}

pub returns-then-letter-letters : goal.returns-then-letter-letters
returns-then-letter-letters c words = reason_verdict _ _ _ (past_letters (omega arith))

pub returns-then-is_full : goal.returns-then-is_full
unfolding state_with
returns-then-is_full c words = reason_verdict _ _ _ (log_full (omega arith) (omega (arith, longest_log_lem)))

pub returns-then-is_of_kind : goal.returns-then-is_of_kind
unfolding state_with
returns-then-is_of_kind c words =
    let a = c.args in
    reason_verdict _ _ _
    (open_too_deep (omega arith) (omega (arith, longest_log_lem)) (open_told _ _ (c.is_of_kind.ensures ∙ c.if-is_of_kind.true)) (omega (arith, deepest_is, head_depth a.head words)))

pub returns : goal.returns
unfolding state_with
returns c words =
    let a = c.args in
    let known : a.letter < letter_count (parse a.table.now) = omega arith in
    verdict_none _ _ _ known (omega (arith, longest_log_lem)) (λ k.
    elim c.else-is_deepest.branch [
      | else-is_deepest-via-then-is_deepest+else-is_of_kind w ↦ absurd (none_told _ _ known (w.is_of_kind.ensures ∙ w.if-is_of_kind.false) k)
      | else-is_deepest-via-else-is_deepest w ↦ omega (arith, deepest_is, head_depth c.args.head words)
    ])
