-- With too many rows nothing is written, else they are laid down after those before.
use Rattle.std.proofs.Common.{arith}
use Rattle.triples.proofs.DigitLists.{digits_length}
use Rattle.triples.proofs.Rows.{append_skip, append_laid}
use Rattle.triples.proofs.append.Goals as goal

pub returns-then-most-total : goal.returns-then-most-total
returns-then-most-total c = append_skip _ _ _ c.ranges.last.fits (omega arith)

pub write_rows-requires-clause-last_bound : goal.write_rows-requires-clause-last_bound
write_rows-requires-clause-last_bound c =
    let most = c.requires.most_bound in
    (omega (arith, digits_length _ c.ranges.last.fits, most.0), most.1.1)

pub returns : goal.returns
returns c = append_laid _ _ _ c.ranges.last.fits (omega arith) c.write_rows.ensures
