use Rattle.triples.proofs.Marks.{ways_in}
use Rattle.triples.proofs.ways_in.Goals as goal

pub returns : goal.returns
returns c = ways_in _ c.args.table.now.good _ c.requires c.moves_of.ensures c.join.ensures
