use Rattle.std.proofs.Common.{arith, rules}
use Rattle.relation.proofs.Relations.{with_pair}
use Rattle.lengths.proofs.Queue.note.Goals as goal

pub returns : goal.returns
returns c = with_pair (record { rows = search rules; fits = λ j. search rules }) (omega arith) (omega arith)
