use mathlib.Core.Path.{◌∙◌}
use Rattle.table.specs.Refusals.{moves?}
use Rattle.table.proofs.are_moves.Goals as goal

pub returns-then-are_in_range : goal.returns-then-are_in_range
unfolding moves?
returns-then-are_in_range c = rw (c.are_in_range.ensures ∙ c.if-are_in_range.true) c.all_rise.ensures

pub returns-else-are_in_range : goal.returns-else-are_in_range
unfolding moves?
returns-else-are_in_range c = rw (c.are_in_range.ensures, c.if-are_in_range.false)
