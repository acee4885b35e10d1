use Rattle.std.proofs.Common.{rules}
use Rattle.table.proofs.checked.Checked.moves.Goals as goal

pub returns : goal.returns
returns c = search rules
