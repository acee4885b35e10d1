use Rattle.std.proofs.Common.{◌≡◌, arith}
use Rattle.nesting.proofs.Rounds.{initial_none, initial_more}
use Rattle.nesting.proofs.initial_states.Goals as goal

pub loop-o-init : goal.loop-o-init
loop-o-init c = initial_none _

pub loop-o-preserved : goal.loop-o-preserved
loop-o-preserved c = initial_more _ c.loop-o.invariant c.initial_digit-x.ensures

pub returns : goal.returns
returns c = let all : c.loop-o.o ≡ 64 = omega (arith, c.loop-o.auto.o-end, c.loop-o-test.false) in rw all at c.loop-o.invariant
