use Rattle.std.proofs.Common.{rules}
use Rattle.table.proofs.all_fit.Goals as goal

pub returns : goal.returns
returns c = search rules
