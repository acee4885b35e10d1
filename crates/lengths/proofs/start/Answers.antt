use Rattle.std.proofs.Common.{arith}
use Rattle.nesting.proofs.Cleared.{kept_then}
use Rattle.table.proofs.CheckedCounts.{few_states}
use Rattle.lengths.proofs.LowerMany.{started}
use Rattle.lengths.proofs.start.Goals as goal

pub lower_same-requires : goal.lower_same-requires
lower_same-requires c = (few_states c.args.table.now, omega arith)

pub returns : goal.returns
returns c =
    let a = c.args.table.now in
    let f = c.lower_same.ensures in
    let g = c.lower_plain.ensures in
    (started _ a.good a.states c.forget.ensures.0 c.requires.none_due f g, kept_then c.forget.ensures.1 (kept_then f.lowered.kept g.lowered.kept))
