-- The rows of the states that the loop has come by are appended.
use Rattle.std.proofs.Common.{get_or}
use Rattle.triples.specs.Listing.{digits_of, rows_with}
use Rattle.triples.proofs.Rows.{ListedBelow}
use Rattle.triples.proofs.list_openers.Given as goal

abbrev pub invariant-loop-o : goal.invariant-loop-o
invariant-loop-o l = ListedBelow 64 (λ o. rows_with 0 l.mark o (digits_of (get_or l.fn.opening o 0))) l.o l.fn.scratch l.count l.scratch l.total
