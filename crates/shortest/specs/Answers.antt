-- Document 01, "Refusal numbers": what the call for a shortest log is answered with.
use Rattle.std.specs.Prelude.{ℕ, Result, Option, Some, None}
use Rattle.std.proofs.Math.Option as math
use Rattle.std.proofs.Math.Option.{none, some}
use Rattle.table.specs.declared.refusal.Refusal.{Refusal}
use Rattle.table.specs.Answers.{Answer, told}

-- How many letters were written, or that there is no log. No log is an answer of its own, and not a log of no letters.
abbrev pub log_told : Option ℕ → math.Option ℕ
log_told None = none
log_told (Some count) = some count

abbrev pub shown_as : Result (Option ℕ) Refusal → Answer (math.Option ℕ)
shown_as = told log_told
