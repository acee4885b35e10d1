use Rattle.std.proofs.Common.{◌≡◌, arith}
use Rattle.nesting.proofs.Rounds.{around_none, around_more}
use Rattle.nesting.proofs.around.Goals as goal

pub loop-mark-init : goal.loop-mark-init
loop-mark-init c = around_none c.empty-s.ensures

pub loop-mark-preserved : goal.loop-mark-preserved
loop-mark-preserved c = around_more c.loop-mark.invariant c.around_by.ensures c.either-next.ensures

pub returns : goal.returns
returns c = let all : c.loop-mark.mark ≡ c.args.marks = omega (arith, c.loop-mark.auto.mark-end, c.loop-mark-test.false) in rw all at c.loop-mark.invariant
