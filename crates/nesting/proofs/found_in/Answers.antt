use mathlib.Core.Path.{sym, ap, ◌∙◌}
use Rattle.relation.specs.Relations.{size_of}
use Rattle.nesting.proofs.CallLaws.{sizes_found}
use Rattle.nesting.proofs.found_in.Goals as goal

pub returns-clause-found_value : goal.returns-clause-found_value
returns-clause-found_value c =
    sizes_found _ c.requires.good (sym c.size.ensures ∙ ap size_of c.balanced_pairs-pairs.ensures) (sym c.size-2.ensures ∙ ap size_of c.live_levels-levels.ensures)
