use Rattle.std.proofs.Common.{rules}
use Rattle.capture.proofs.answers.heard.Goals as goal

pub returns-in-Ok-Stop : goal.returns-in-Ok-Stop
returns-in-Ok-Stop c = search rules
