-- The rows of one beginning more are appended; what `list_states_from` asks for, the appended rows before keep.
use Rattle.std.proofs.Common.{arith}
use Rattle.triples.proofs.Laying.{appended_low, appended_long}
use Rattle.triples.proofs.Rows.{listed_none, states_more, states_all}
use Rattle.triples.proofs.list_states.Goals as goal

pub loop-o-init : goal.loop-o-init
loop-o-init c = listed_none _ (omega arith)

pub list_states_from-count-requires : goal.list_states_from-count-requires
list_states_from-count-requires c =
    let h = c.loop-o.invariant.appended in (omega arith, (appended_low h, omega (arith, appended_long h)))

pub loop-o-preserved : goal.loop-o-preserved
loop-o-preserved c = states_more _ c.transposed-back.ensures _ c.loop-o.invariant c.list_states_from-count.ensures

pub returns : goal.returns
returns c = states_all _ _ (omega arith) c.loop-o.invariant
