-- The limit of a log as a number, for arithmetic.
use mathlib.Core.Path.{◌≡◌, refl}
use Rattle.table.specs.Logs.{longest_log}

pub longest_log_lem : longest_log ≡ 16777215
unfolding longest_log
longest_log_lem = refl
