use Rattle.std.proofs.Common.{arith}
use Rattle.reader.specs.Layout.{state_size}
use Rattle.capture.proofs.Words.{laid_no_word, laid_next, laid_words}
use Rattle.capture.proofs.state.put.Goals as goal

pub loop-i-init : goal.loop-i-init
loop-i-init c = laid_no_word _ _

pub loop-i-preserved : goal.loop-i-preserved
loop-i-preserved c = laid_next c.loop-i.invariant c.loop-i-test.true c.put_word.ensures

pub returns : goal.returns
returns c = laid_words {size = state_size} c.loop-i.invariant (omega arith) (omega (arith, c.loop-i-test.false)) (omega arith)
