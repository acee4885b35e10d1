use Rattle.table.specs.Layout.{moves_part}
use Rattle.lengths.proofs.Chains.{ChainedFrom}
use Rattle.lengths.proofs.chain.Given as goal

abbrev pub invariant-loop-k : goal.invariant-loop-k
invariant-loop-k l = ChainedFrom (moves_part l.table) l.column l.k l.r
