-- The rows of the marks that have come are appended.
use Rattle.relation.specs.Digits.{ones_of}
use Rattle.triples.proofs.Rows.{WalkedRows}
use Rattle.trim.specs.Steps.{marked_by}
use Rattle.trim.proofs.list_marked.Given as goal

abbrev pub invariant-loop-k : goal.invariant-loop-k
invariant-loop-k l =
    WalkedRows 1024 (marked_by l.block l.number l.letter l.plan.here l.plan.mark l.ends) l.fn.marks l.yielded (ones_of l.k-iterator.0) l.fn.scratch l.count l.scratch l.total
