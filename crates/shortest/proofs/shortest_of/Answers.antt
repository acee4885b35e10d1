use Rattle.std.proofs.Common.{◌<◌, ◌∙◌, sym, arith}
use Rattle.table.proofs.Tables.{good_table}
use Rattle.lengths.specs.Limit.{over}
use Rattle.lengths.proofs.Lowering.{over_is}
use Rattle.shortest.proofs.Tops.{not_past, shows_no_log, shows_too_long, shows_past, shows_written}
use Rattle.shortest.proofs.shortest_of.Goals as goal
use Rattle.shortest.proofs.shortest_of.Goals.{Else-too_long}

below : (c : Else-too_long) → c.in-Some.top.moves < over
below c = omega (arith, over_is, c.if-too_long.false, not_past (good_table _ c.args.table.now.good) c.find.ensures.0 c.args.out.now c.in-Some.ensures)

pub returns-in_default-clause-shows_log : goal.returns-in_default-clause-shows_log
returns-in_default-clause-shows_log c = shows_no_log (good_table _ c.args.table.now.good) c.find.ensures.0 c.args.out.now c.in_default.ensures

pub returns-then-too_long-clause-shows_log : goal.returns-then-too_long-clause-shows_log
returns-then-too_long-clause-shows_log c =
    shows_too_long (good_table _ c.args.table.now.good) c.find.ensures.0 c.args.out.now c.in-Some.ensures (c.if-too_long.true ∙ sym over_is)

pub returns-then-out-top-clause-shows_log : goal.returns-then-out-top-clause-shows_log
returns-then-out-top-clause-shows_log c =
    shows_past (good_table _ c.args.table.now.good) c.find.ensures.0 c.args.out.now c.in-Some.ensures
    (below (goal.at.returns-then-out-top-clause-shows_log c).Else-too_long) c.if-out-top.true

pub write_log-requires-clause-least : goal.write_log-requires-clause-least
write_log-requires-clause-least c =
    rw c.new-links.ensures
    (c.find.ensures.0, (c.in-Some.ensures, (below (goal.at.write_log-requires-clause-least c).Else-too_long, c.if-out-top.false)))

pub returns-clause-shows_log : goal.returns-clause-shows_log
returns-clause-shows_log c =
    shows_written (good_table _ c.args.table.now.good) c.find.ensures.0 c.args.out.now c.in-Some.ensures (below (goal.at.returns-clause-shows_log c).Else-too_long)
    c.if-out-top.false (rw c.new-links.ensures at c.write_log.ensures.wrote)
