-- By the kind of the letter, what is listed are the moves by it.
use Rattle.std.proofs.Common.{arith}
use Rattle.table.proofs.CallLaws.{told_kind, told_none}
use Rattle.table.proofs.Tables.{good_table}
use Rattle.trim.proofs.Blocks.{ends_low}
use Rattle.triples.proofs.Laying.{appended_same}
use Rattle.trim.proofs.Moves.{plain_rows, open_rows, close_rows, number_low, letter_low}
use Rattle.trim.proofs.list_by.Goals as goal

pub targets-requires : goal.targets-requires
targets-requires c = ends_low _ c.args.table.now.good c.requires.block_of

pub append-requires-clause-x_bound : goal.append-requires-clause-x_bound
append-requires-clause-x_bound c =
    let p = c.requires in
    (number_low p.guides.0 p.guides.1, (letter_low _ c.args.table.now.good p.letter_bound.0, omega arith))

pub list_marked-requires-clause-letter_bound : goal.list_marked-requires-clause-letter_bound
list_marked-requires-clause-letter_bound c =
    let p = c.requires in
    (letter_low _ c.args.table.now.good p.letter_bound.0, (number_low p.guides.0 p.guides.1, p.letter_bound.1))

pub list_marked-requires-clause-ends_low : goal.list_marked-requires-clause-ends_low
list_marked-requires-clause-ends_low c = ends_low _ c.args.table.now.good c.requires.block_of

pub list_marked-requires-in-Some-Close-clause-letter_bound : goal.list_marked-requires-in-Some-Close-clause-letter_bound
list_marked-requires-in-Some-Close-clause-letter_bound c =
    let p = c.requires in
    (letter_low _ c.args.table.now.good p.letter_bound.0, (number_low p.guides.0 p.guides.1, p.letter_bound.1))

pub list_marked-requires-in-Some-Close-clause-ends_low : goal.list_marked-requires-in-Some-Close-clause-ends_low
list_marked-requires-in-Some-Close-clause-ends_low c = ends_low _ c.args.table.now.good c.requires.block_of

pub returns-in-None : goal.returns-in-None
returns-in-None c = absurd (told_none _ c.requires.letter_bound.0 c.in-None.ensures)

pub returns-in-Some-Plain : goal.returns-in-Some-Plain
returns-in-Some-Plain c =
    let p = c.requires in
    let kind = told_kind _ _ (rw c.in-Some-Plain.field-0-is at c.in-Some-Plain.ensures) in
    appended_same (plain_rows p.guides.0 p.guides.1 p.block_of (good_table _ c.args.table.now.good) kind _ c.targets.ensures) c.append.ensures

pub returns-in-Some-Open : goal.returns-in-Some-Open
returns-in-Some-Open c =
    let p = c.requires in
    let kind = told_kind _ _ (rw c.in-Some-Open.field-0-is at c.in-Some-Open.ensures) in
    appended_same (open_rows p.guides.0 p.guides.1 p.block_of kind) c.list_marked.ensures

pub returns-in-Some-Close : goal.returns-in-Some-Close
returns-in-Some-Close c =
    let p = c.requires in
    let kind = told_kind _ _ (rw c.in-Some-Close.field-0-is at c.in-Some-Close.ensures) in
    appended_same (close_rows p.guides.0 p.guides.1 p.block_of kind) c.list_marked-in-Some-Close.ensures
