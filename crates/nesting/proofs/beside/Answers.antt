use Rattle.nesting.proofs.Rounds.{beside_joins}
use Rattle.nesting.proofs.beside.Goals as goal

pub returns : goal.returns
returns c = beside_joins c.join.ensures c.join-2.ensures
