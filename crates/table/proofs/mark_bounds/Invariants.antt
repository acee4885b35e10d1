use Rattle.std.proofs.Common.{cond, eqb}
use Rattle.table.specs.Refusals.{kind_byte}
use Rattle.table.proofs.Filled.{Filled}
use Rattle.table.proofs.mark_bounds.Given as goal

-- The front has the bounds of the letters so far.
abbrev pub invariant-loop-letter : goal.invariant-loop-letter
invariant-loop-letter l = Filled (λ i. cond (eqb (kind_byte l.table i) 0) 1 l.marks) 0 256 l.letter l.bounds
