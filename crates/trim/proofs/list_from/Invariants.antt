-- The rows of the letters that the loop has come by are appended, and the next letter's moves begin at the cut.
use Rattle.std.proofs.Common.{◌+◌}
use Rattle.table.specs.Meaning.{meant}
use Rattle.trim.specs.Steps.{moves_by, Cut}
use Rattle.triples.proofs.Rows.{ListedBelow}
use Rattle.trim.proofs.list_from.Given as goal

abbrev pub invariant-loop-letter : goal.invariant-loop-letter
invariant-loop-letter l = record {
  listed : ListedBelow 1024 (moves_by (meant l.table) l.fn.from.number) l.letter l.fn.scratch l.count l.scratch l.total;
  cut : Cut l.part (l.key + l.letter) l.at;
}
