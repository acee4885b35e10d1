use Rattle.std.proofs.Common.{arith}
use Rattle.lengths.proofs.Lowering.{over_is, lowered_none}
use Rattle.lengths.proofs.lower_by.Goals as goal

pub returns-then-more-le-OVER : goal.returns-then-more-le-OVER
returns-then-more-le-OVER c =
    let to = c.lower.ensures in
    record { lowered = to.lowered; here = λ l. to.here; sound = λ t f k. to.sound t f (k (omega (arith, over_is, c.if-more-le-OVER.true))) }

pub returns-else-more-le-OVER : goal.returns-else-more-le-OVER
returns-else-more-le-OVER c =
    record { lowered = lowered_none _ _; here = λ l. absurd (omega (arith, over_is, c.if-more-le-OVER.false)); sound = λ t f k. f }
