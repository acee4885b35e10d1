-- The rows of the plan, put together as the code does.
use Rattle.triples.proofs.Numbers.{plans}
use Rattle.triples.proofs.plan_of.Goals as goal

pub returns : goal.returns
returns c =
    plans c.levels_of.ensures.level c.levels_of.ensures.outer c.turning-ends.ensures c.join-left.ensures c.turning-starts.ensures c.numbers_at.ensures
    c.transposed.ensures c.transposed-2.ensures c.join.ensures
