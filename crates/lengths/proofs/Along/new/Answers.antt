use Rattle.std.proofs.Common.{refl}
use Rattle.lengths.proofs.Along.new.Goals as goal

pub returns : goal.returns
returns c = (refl, (refl, refl))
