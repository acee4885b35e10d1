use Rattle.std.proofs.Common.{refl}
use Rattle.lengths.proofs.AlongIterator.next.Goals as goal

pub returns-clause-steps : goal.returns-clause-steps
returns-clause-steps c = (refl, (refl, (refl, (c.if-self.false, refl))))
