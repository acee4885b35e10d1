-- What a letter adds fits the numbers that are added.
use Rattle.std.proofs.Common.{arith, SFits}
use Rattle.std.specs.Int.{w32}
use Rattle.vpa.specs.Automaton.{Kind, plain, opening, closing}
use Rattle.vpa.specs.Balance.{change}

pub change_fits : (k : Kind) → SFits w32 (change k)
unfolding change
change_fits plain = record { sfits = omega arith }
change_fits opening = record { sfits = omega arith }
change_fits closing = record { sfits = omega arith }
