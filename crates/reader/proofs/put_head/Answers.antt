use Rattle.std.proofs.Common.{arith, ◌∙◌, length-set}
use Rattle.reader.proofs.Numbers.{state_size_lem}
use Rattle.reader.proofs.Writing.{head_written, flag_word}
use Rattle.reader.proofs.put_head.Goals as goal

pub bounds-state-1 : goal.bounds-state-1
bounds-state-1 c = simp length-set (omega (arith, state_size_lem))

pub bounds-state-2 : goal.bounds-state-2
bounds-state-2 c = simp length-set (omega (arith, state_size_lem))

pub returns : goal.returns
returns c = head_written _ _ (omega (arith, state_size_lem)) (c.from.ensures ∙ flag_word c.args.head.stopped)
