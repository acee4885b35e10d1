use Rattle.std.proofs.Common.{refl}
use Rattle.relation.specs.Digits.{bit}
use Rattle.relation.specs.Relations.{holds?}
use Rattle.relation.proofs.has.Goals as goal

pub returns : goal.returns
unfolding holds? bit
returns c = refl
