use Rattle.std.proofs.Common.{rules}
use Rattle.table.proofs.refusal.U8FromRefusal.from.Goals as goal

pub returns : goal.returns
returns c = search rules
