use native.Mathlib.Omega.{arith}
use Rattle.table.proofs.CallLaws.{numbered_above}
use Rattle.table.proofs.Ladder.{refused_by_head, size_after_head, verdict_after_head}
use Rattle.table.proofs.verdict.Goals as goal

pub returns-in_err-head_verdict : goal.returns-in_err-head_verdict
returns-in_err-head_verdict c = let h = refused_by_head c.args.table.now c.in_err-head_verdict.ensures (numbered_above _) in grind (arith, h)

pub are_lists-requires : goal.are_lists-requires
are_lists-requires c = omega (arith, size_after_head _ c.in_ok-head_verdict.ensures)

pub returns-in_err-rung : goal.returns-in_err-rung
returns-in_err-rung c = let h = verdict_after_head _ c.in_ok-head_verdict.ensures in grind (arith, h)

pub are_moves-requires : goal.are_moves-requires
are_moves-requires c = omega (arith, size_after_head _ c.in_ok-head_verdict.ensures)

pub returns : goal.returns
returns c = let h = verdict_after_head _ c.in_ok-head_verdict.ensures in grind (arith, h)
