-- The plan's arrays at the number are what the moves from it are listed by.
use Rattle.trim.proofs.Moves.{plan_from}
use Rattle.trim.proofs.origin_of.Goals as goal

pub returns-clause-is_from : goal.returns-clause-is_from
returns-clause-is_from c = λ t of l. plan_from of l
