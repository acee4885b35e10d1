use Rattle.shortest.proofs.Walks.{log_none, log_least, log_writing, log_more, log_all}
use Rattle.shortest.proofs.write_log.Goals as goal

pub loop-place-init : goal.loop-place-init
loop-place-init c = let p = c.requires.least.1 in log_none p.0 p.1.0

pub write_letter-walk-requires-clause-least : goal.write_letter-walk-requires-clause-least
write_letter-walk-requires-clause-least c =
    let h = c.loop-place.invariant in
    let m = c.requires.least.1.1 in
    (log_least h c.requires.least.0, log_writing h c.loop-place-test.true m.0 m.1)

pub loop-place-preserved : goal.loop-place-preserved
loop-place-preserved c = log_more c.loop-place.invariant c.write_letter-walk.ensures

pub returns-clause-wrote : goal.returns-clause-wrote
returns-clause-wrote c = log_all _ c.args.links.table.now.good _ c.requires.least.0 c.loop-place-test.false c.loop-place.invariant

pub returns-clause-kept_from : goal.returns-clause-kept_from
returns-clause-kept_from c = c.loop-place.invariant.kept
