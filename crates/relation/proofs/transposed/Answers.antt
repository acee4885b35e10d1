use Rattle.std.proofs.Common.{arith}
use Rattle.relation.proofs.Owned.{owned}
use Rattle.relation.proofs.Walks.{turned_none, turned_more, turned_all}
use Rattle.relation.proofs.transposed.Goals as goal

pub loop-j-init : goal.loop-j-init
loop-j-init c = turned_none _

pub spread-requires : goal.spread-requires
spread-requires c = (c.loop-j.invariant.is, omega arith)

pub loop-j-preserved : goal.loop-j-preserved
loop-j-preserved c = turned_more c.loop-j.invariant c.spread.ensures

pub returns : goal.returns
returns c = turned_all (omega arith) (owned _ _ c.well_formed.0) c.loop-j.invariant
