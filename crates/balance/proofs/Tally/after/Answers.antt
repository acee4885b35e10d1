use Rattle.std.proofs.Common.{rules}
use Rattle.balance.proofs.Tally.after.Goals as goal

pub returns : goal.returns
returns c = search rules
