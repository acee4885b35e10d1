use Rattle.std.proofs.Common.{arith, sym, ◌∙◌}
use Rattle.reader.proofs.Legal.{leading_low, legal_stops, legal_tested, not_leading, second_decides}
use Rattle.reader.proofs.Numbers.{deepest_is}
use Rattle.reader.proofs.Memory.is_legal.Goals as goal

pub returns-then-not-is_leading : goal.returns-then-not-is_leading
returns-then-not-is_leading c = not_leading _ _ (c.is_leading.ensures ∙ c.if-not-is_leading.true)

pub overflow_add-depth : goal.overflow_add-depth
overflow_add-depth c = omega (arith, leading_low _ (c.is_leading.ensures ∙ c.if-not-is_leading.false))

pub are_blocks-requires : goal.are_blocks-requires
are_blocks-requires c = omega (arith, leading_low _ (c.is_leading.ensures ∙ c.if-not-is_leading.false), deepest_is)

pub overflow_add-depth-then-are_blocks : goal.overflow_add-depth-then-are_blocks
overflow_add-depth-then-are_blocks c = omega (arith, leading_low _ (c.is_leading.ensures ∙ c.if-not-is_leading.false))

pub place-requires : goal.place-requires
place-requires c = omega (arith, leading_low _ (c.is_leading.ensures ∙ c.if-not-is_leading.false), deepest_is)

pub returns-then-are_blocks : goal.returns-then-are_blocks
returns-then-are_blocks c =
    second_decides (legal_tested _ _ (c.is_leading.ensures ∙ c.if-not-is_leading.false) c.are_blocks.ensures c.place.ensures.0 c.together.ensures) c.if-are_blocks.true

pub returns-else-are_blocks : goal.returns-else-are_blocks
returns-else-are_blocks c =
    legal_stops _ _ (c.is_leading.ensures ∙ c.if-not-is_leading.false) (c.are_blocks.ensures ∙ c.if-are_blocks.false) ∙ sym c.if-are_blocks.false
