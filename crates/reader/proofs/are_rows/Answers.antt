use Rattle.std.proofs.Common.{arith}
use Rattle.reader.proofs.Legal.{first_decides, second_decides}
use Rattle.reader.proofs.Rows.{rows_gathered}
use Rattle.reader.proofs.are_rows.Goals as goal

pub returns-then-is_below : goal.returns-then-is_below
returns-then-is_below c =
    second_decides (rw c.is_below.ensures at (rows_gathered (omega arith) c.together-named.ensures c.together-past.ensures)) c.if-is_below.true

pub returns-else-is_below : goal.returns-else-is_below
returns-else-is_below c =
    first_decides _ (rw c.is_below.ensures at (rows_gathered (omega arith) c.together-named.ensures c.together-past.ensures)) c.if-is_below.false
