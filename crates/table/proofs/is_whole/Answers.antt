use Rattle.table.specs.Refusals.{whole?}
use Rattle.table.proofs.is_whole.Goals as goal

pub returns : goal.returns
unfolding whole?
returns c = rw c.word_at.ensures.0
