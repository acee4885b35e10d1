use Rattle.std.proofs.Common.{arith}
use Rattle.relation.proofs.OnesListed.{ones_of_zero, ones_of_lowest}
use Rattle.relation.proofs.OnesIterator.next.Goals as goal

pub returns-then-self-eq0-clause-steps : goal.returns-then-self-eq0-clause-steps
returns-then-self-eq0-clause-steps c = rw c.if-self-eq0.true (ones_of_zero, ones_of_zero)

pub returns-clause-steps : goal.returns-clause-steps
returns-clause-steps c = ones_of_lowest _ (omega arith) (omega arith)

pub returns-clause-goes : goal.returns-clause-goes
returns-clause-goes c = let e = ones_of_lowest c.args.self.now.0 (omega arith) (omega arith) in grind arith
