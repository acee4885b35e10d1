use Rattle.reader.proofs.Rows.{shifted_out}
use Rattle.reader.proofs.is_below.Goals as goal

pub returns-else-n-ge64 : goal.returns-else-n-ge64
returns-else-n-ge64 c = shifted_out c.args.x c.args.n
