use Rattle.table.specs.Refusals.{sized?}
use Rattle.table.proofs.is_sized.Goals as goal

pub returns : goal.returns
unfolding sized?
returns c = rw (c.word_at.ensures.0, c.number_at.ensures.0, c.number_at-2.ensures.0, c.word_at-2.ensures.0)
