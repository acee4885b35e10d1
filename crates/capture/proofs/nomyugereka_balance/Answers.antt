use Rattle.std.proofs.Common.{rules}
use Rattle.capture.proofs.nomyugereka_balance.Goals as goal

pub returns-in-Ok-clause-lowest_after : goal.returns-in-Ok-clause-lowest_after
returns-in-Ok-clause-lowest_after c = search rules
