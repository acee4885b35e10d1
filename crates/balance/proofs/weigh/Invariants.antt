use Rattle.table.specs.Meaning.{meant}
use Rattle.balance.proofs.Weighing.{WeighedTo}
use Rattle.balance.proofs.weigh.Given as goal

abbrev pub invariant-loop-byte : goal.invariant-loop-byte
invariant-loop-byte l = WeighedTo (meant l.table) l.log l.byte-index l.tally
