use Rattle.whole_log.proofs.Following.{ReadTo}
use Rattle.whole_log.proofs.read_all.Given as goal

abbrev pub invariant-loop-letter : goal.invariant-loop-letter
invariant-loop-letter l = ReadTo l.moves.table.now.bytes.now l.log l.initial.state l.letter-index l.head l.state
