use Rattle.lengths.proofs.Links.moves.Goals as goal

pub returns : goal.returns
returns c = c.moves.ensures
