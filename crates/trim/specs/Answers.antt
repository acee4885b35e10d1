-- Document 01, "Refusal numbers": what a trim is answered with.
use Rattle.std.specs.Prelude.{ℕ, Result}
use Rattle.table.specs.Answers.{Answer, told}
use Rattle.table.specs.declared.refusal.Refusal.{Refusal}

-- How many bytes were written, or the refusal.
abbrev pub trimmed_as : Result ℕ Refusal → Answer ℕ
trimmed_as = told (λ count. count)
