-- Document 01, "Refusal numbers", 12, and the word of a reader's state that counts letters: the limit of logs, whatever is done with them.
use Rattle.std.specs.Prelude.{ℕ}

-- How many letters a log may have.
unfoldable pub longest_log : ℕ
longest_log = 16777215
