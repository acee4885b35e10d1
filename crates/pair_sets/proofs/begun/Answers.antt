use Rattle.std.proofs.Common.{arith, sym, replicate}
use Rattle.std.proofs.lemmas.List.{length-take-le}
use Rattle.vpa.proofs.TableMoves.{initial_bound}
use Rattle.table.proofs.CheckedCounts.{few_states}
use Rattle.pair_sets.proofs.Accepting.{to_none, to_more, to_all, started_row}
use Rattle.pair_sets.proofs.begun.Goals as goal

pub slice_bounds-pairs-end : goal.slice_bounds-pairs-end
slice_bounds-pairs-end c = few_states c.args.table.now

pub slice_bounds-row-items-end : goal.slice_bounds-row-items-end
slice_bounds-row-items-end c = sym (length-take-le c.args.table.now.counts.states (replicate 64 0) (few_states c.args.table.now))

pub loop-i-init : goal.loop-i-init
loop-i-init c = to_none (few_states c.args.table.now)

pub loop-i-preserved : goal.loop-i-preserved
loop-i-preserved c = to_more _ (omega (arith, c.loop-i.auto.row-items, c.loop-i.invariant.long)) c.loop-i.invariant (started_row _ c.initial_digit.ensures)

pub returns : goal.returns
returns c =
    let t = c.args.table.now in
    to_all (few_states t) (omega (arith, c.loop-i.auto.row-items, c.loop-i.invariant.long)) (λ j k w. omega (arith, t.states, initial_bound _ j w.begins)) c.loop-i.invariant
