-- A row more is appended for each state; what `append` asks for, the appended rows before keep.
use Rattle.std.proofs.Common.{arith}
use Rattle.triples.proofs.Laying.{appended_low, appended_long}
use Rattle.triples.proofs.Rows.{listed_none, listed_more, listed_all}
use Rattle.triples.proofs.list_openers.Goals as goal

pub loop-o-init : goal.loop-o-init
loop-o-init c = listed_none _ (omega arith)

pub append-total-requires-clause-most_bound : goal.append-total-requires-clause-most_bound
append-total-requires-clause-most_bound c =
    let h = c.loop-o.invariant.appended in (omega arith, (appended_low h, omega (arith, appended_long h)))

pub loop-o-preserved : goal.loop-o-preserved
loop-o-preserved c = listed_more c.loop-o.invariant c.append-total.ensures

pub returns : goal.returns
returns c = listed_all (omega arith) c.loop-o.invariant
