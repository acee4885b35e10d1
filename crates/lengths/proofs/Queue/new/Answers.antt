use Rattle.relation.proofs.Relations.{zeros_hold}
use Rattle.lengths.proofs.Queue.new.Goals as goal

pub returns : goal.returns
returns c = λ p q h. elim ((zeros_hold.at p q).0 h) [ ]
