use Rattle.table.proofs.Logs.{longest_log_lem}
use Rattle.reader.specs.Refusals.{leading?}
use Rattle.reader.proofs.Numbers.{deepest_is}
use Rattle.reader.proofs.Memory.is_leading.Goals as goal

pub returns : goal.returns
unfolding leading?
returns c = rw (longest_log_lem, deepest_is)
