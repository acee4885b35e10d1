use Rattle.nesting.specs.Steps.{move_of?}
use Rattle.nesting.proofs.is_move_of.Goals as goal

pub returns : goal.returns
unfolding move_of?
returns c = c.has_kind_and_mark.ensures
