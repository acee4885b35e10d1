-- Document 01, "The reader", its last paragraph, and "Refusal numbers", 11 and 12: what the call for the balance answers, as a function of what it is given.
use Rattle.std.specs.Prelude.{ℕ, ◌≤◌, ◌<◌, Bool, cond, ◌≡◌, leb, ltb, length}
use mathlib.Core.List.{List, Memᴰ}
use Rattle.vpa.specs.Balance as vpa
use Rattle.vpa.specs.Lists.{any?}
use Rattle.vpa.specs.TableOnDisk.{Table, letter_count, kind_in}
use Rattle.table.specs.Answers.{Answer, refused, answered}
use Rattle.table.specs.Calls.{for_table}
use Rattle.table.specs.Layout.{parse}
use Rattle.table.specs.Logs.{longest_log}
use Rattle.table.specs.Refusals.{order, Given, verdict}
use Rattle.balance.specs.declared.Tally.{Tally}

-- The balance of a log by a table's kinds, and the lowest of its prefixes.
abbrev pub tally_of : Table → List ℕ → Tally
tally_of t log = record { balance = vpa.balance (kind_in t) log; lowest = vpa.lowest (kind_in t) log }

-- A letter that the table does not have.
abbrev pub past? : Table → ℕ → Bool
past? t a = leb (letter_count t) a

-- 11 if there is such a letter. A refusal does not tell where, so it is the same for the first of them and for any other.
abbrev pub letters_weighed : Table → List ℕ → Answer Tally
letters_weighed t log = cond (any? (past? t) log) (refused 11) (answered (tally_of t log))

-- Before that, 1 to 6 for the bytes, then 12 for the log's length.
abbrev pub balance_call : List ℕ → List ℕ → Answer Tally
balance_call s log = for_table s (cond (ltb longest_log (length log)) (refused 12) (letters_weighed (parse s) log)) refused

-- Why the call refuses with k.
pub data BalanceReason (s log : List ℕ) : ℕ → Type 0 where
  no_table : {k : ℕ} → Given s order k → (k ≡ 0 → ⊥) → BalanceReason s log k
  too_long : verdict s ≡ 0 → longest_log < length log → BalanceReason s log 12
  past_letter : {a : ℕ} → verdict s ≡ 0 → length log ≤ longest_log → Memᴰ a log → letter_count (parse s) ≤ a → BalanceReason s log 11
