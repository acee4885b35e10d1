use Rattle.std.proofs.Common.{◌∙◌}
use Rattle.reader.specs.Refusals.{letter_word?}
use Rattle.reader.proofs.Letters.{word_asked}
use Rattle.reader.proofs.is_letter_word.Goals as goal

pub returns-then-depth-eq0 : goal.returns-then-depth-eq0
unfolding letter_word?
returns-then-depth-eq0 c = rw c.if-depth-eq0.true

pub returns-else-depth-eq0 : goal.returns-else-depth-eq0
returns-else-depth-eq0 c = word_asked _ _ _ c.if-depth-eq0.false ∙ c.is_of_kind.ensures
