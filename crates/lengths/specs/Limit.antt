-- Document 01, "Refusal numbers", 10: how many letters a log that is shown has at most.
use Rattle.std.specs.Prelude.{ℕ, suc}

unfoldable pub most_shown : ℕ
most_shown = 4096

-- The number that stands for every length past it.
unfoldable pub over : ℕ
over = suc most_shown
