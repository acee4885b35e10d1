-- Document 01, "Refusal numbers": what pairs and levels are answered with, the arrays apart.
use Rattle.std.specs.Prelude.{ℕ, Result}
use Rattle.table.specs.declared.refusal.Refusal.{Refusal}
use Rattle.table.specs.Answers.{Answer, told}
use Rattle.nesting.specs.declared.Sizes as declared

-- The numbers of balanced pairs and of live levels.
pub record Sizes : Type 0 where
  pub pairs : ℕ
  pub levels : ℕ

abbrev pub sizes_told : declared.Sizes → Sizes
sizes_told sizes = record { pairs = sizes.pairs; levels = sizes.levels }

-- Of the call: both numbers, or the refusal.
abbrev pub found_as : Result declared.Sizes Refusal → Answer Sizes
found_as = told sizes_told
