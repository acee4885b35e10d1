-- Where the marks are too many, and what is read back where they are not.
use Rattle.triples.proofs.Rows.{column_trios}
use Rattle.trim.proofs.Stages.{many_marks}
use Rattle.trim.proofs.trim_with_states.Goals as goal

pub returns-then-ways-gt-MARKS-clause-result_value : goal.returns-then-ways-gt-MARKS-clause-result_value
returns-then-ways-gt-MARKS-clause-result_value c = (many_marks _ _ c.list_marks-ways.ensures.appended c.if-ways-gt-MARKS.true).0

pub returns-then-ways-gt-MARKS-clause-out_after : goal.returns-then-ways-gt-MARKS-clause-out_after
returns-then-ways-gt-MARKS-clause-out_after c = (many_marks _ _ c.list_marks-ways.ensures.appended c.if-ways-gt-MARKS.true).1

pub trim_with_marks-requires-clause-columns_2 : goal.trim_with_marks-requires-clause-columns_2
trim_with_marks-requires-clause-columns_2 c = column_trios _ c.list_marks-ways.ensures.appended c.if-ways-gt-MARKS.false c.read_back-marks.ensures
