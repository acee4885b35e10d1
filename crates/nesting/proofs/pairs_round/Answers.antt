use Rattle.nesting.proofs.Rounds.{pair_round}
use Rattle.nesting.proofs.pairs_round.Goals as goal

pub returns : goal.returns
returns c = pair_round c.requires.1 c.around-nested.ensures c.join.ensures c.either.ensures c.either-2.ensures
