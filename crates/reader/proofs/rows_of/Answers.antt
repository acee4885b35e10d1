use Rattle.std.proofs.Common.{◌∙◌, ap, length}
use Rattle.reader.proofs.LentRows.{lent_letter, letter_long}
use Rattle.reader.proofs.rows_of.Goals as goal

pub returns : goal.returns
returns c =
    let moves = c.args.rows.now in
    let e = lent_letter moves c.args.letter in
    (e, ap length e ∙ letter_long moves c.requires.1 c.requires.0)
