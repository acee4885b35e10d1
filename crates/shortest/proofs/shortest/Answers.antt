use Rattle.std.proofs.Common.{◌∙◌, arith}
use Rattle.nesting.proofs.Cleared.{scratch_size_lem, kept_cleared}
use Rattle.shortest.proofs.CallLaws.{meets_short, meets_shown}
use Rattle.shortest.proofs.shortest.Goals as goal

pub returns-then-scratch-lt-SCRATCH : goal.returns-then-scratch-lt-SCRATCH
returns-then-scratch-lt-SCRATCH c =
    meets_short _ _ _ (rw c.in_ok-table.ensures.same_bytes at c.in_ok-table.table.good) (omega (arith, scratch_size_lem))

pub clear-requires : goal.clear-requires
clear-requires c = omega (arith, scratch_size_lem, c.shortest_of-answer.ensures.kept_from.long)

pub returns : goal.returns
returns c =
    let e = c.in_ok-table.ensures.same_bytes in
    let r = c.shortest_of-answer.ensures in
    meets_shown _ _ _ (rw e at c.in_ok-table.table.good) (omega (arith, scratch_size_lem)) (rw e at r.shows_log)
    (c.clear.ensures ∙ kept_cleared r.kept_from (omega (arith, scratch_size_lem)))
