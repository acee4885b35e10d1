use Rattle.std.proofs.Common.{arith}
use Rattle.reader.proofs.Numbers.{deepest_is, state_size_lem, block_place_lem}
use Rattle.reader.proofs.place.Goals as goal

pub returns : goal.returns
returns c = (block_place_lem _, omega (arith, deepest_is, state_size_lem))
