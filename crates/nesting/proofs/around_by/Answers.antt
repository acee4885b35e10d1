use Rattle.nesting.proofs.Rounds.{around_by}
use Rattle.nesting.proofs.around_by.Goals as goal

pub returns : goal.returns
returns c = around_by c.moves_of.ensures c.join.ensures c.moves_of-2.ensures c.join-2.ensures
