use Rattle.table.specs.Refusals.{small?}
use Rattle.table.proofs.is_small.Goals as goal

pub returns : goal.returns
unfolding small?
returns c = rw (c.number_at.ensures.0, c.number_at-2.ensures.0, c.number_at-3.ensures.0, c.word_at.ensures.0)
