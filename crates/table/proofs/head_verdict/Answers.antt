use Rattle.std.proofs.Common.{rules, arith}
use Rattle.table.specs.Refusals.{version?, head_rungs}
use Rattle.table.proofs.head_verdict.Goals as goal

pub returns-in_err-rung : goal.returns-in_err-rung
unfolding head_rungs
returns-in_err-rung c = grind arith

pub returns-in_err-rung-2 : goal.returns-in_err-rung-2
unfolding version? head_rungs
returns-in_err-rung-2 c = grind arith

pub returns-in_err-rung-3 : goal.returns-in_err-rung-3
unfolding version? head_rungs
returns-in_err-rung-3 c = grind arith

pub returns : goal.returns
unfolding version? head_rungs
returns c = grind arith
