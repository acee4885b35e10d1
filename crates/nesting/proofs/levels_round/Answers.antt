use Rattle.nesting.proofs.Rounds.{level_round}
use Rattle.nesting.proofs.levels_round.Goals as goal

pub returns : goal.returns
returns c = level_round c.requires.1 c.beside.ensures c.around-opened.ensures c.both.ensures c.either.ensures
