-- Document 01, "The reader", its last paragraph: what the call for the balance can answer.
use Rattle.std.specs.Prelude.{Result}
use Rattle.table.specs.declared.refusal.Refusal.{Refusal}
use Rattle.table.specs.Answers.{Answer, told}
use Rattle.balance.specs.declared.Tally.{Tally}

-- The refusal, or the balance and the lowest.
abbrev pub weighed_as : Result Tally Refusal → Answer Tally
weighed_as = told (λ tally. tally)
