use Rattle.triples.proofs.Marks.{ways_out}
use Rattle.triples.proofs.ways_out.Goals as goal

pub returns : goal.returns
returns c = ways_out _ c.args.table.now.good _ c.requires c.moves_of.ensures c.join.ensures
