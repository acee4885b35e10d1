use Rattle.std.proofs.Common.{rules}
use Rattle.table.proofs.are_ascending.Goals as goal

pub returns : goal.returns
returns c = search rules
