use Rattle.std.proofs.Common.{arith}
use Rattle.table.proofs.Tables.{good_storable}
use Rattle.nesting.proofs.Rounds.{pair_start}
use Rattle.nesting.proofs.first_pairs.Goals as goal

pub identity-requires : goal.identity-requires
identity-requires c = omega (arith, c.requires.1, (good_storable _ c.requires.0).states)

pub returns : goal.returns
returns c = pair_start c.requires.1 c.identity.ensures c.moves_of.ensures c.either.ensures
