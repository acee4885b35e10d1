use Rattle.std.proofs.Common.{arith, sym, ◌<◌, ◌≡◌, length, take}
use Rattle.std.proofs.lemmas.List.{get_or-take, length-take-le}
use Rattle.table.proofs.CheckedCounts.{few_states}
use Rattle.pair_sets.proofs.Accepting.{from_none, from_here, from_past, from_all}
use Rattle.pair_sets.proofs.from_initial.Goals as goal
use Rattle.pair_sets.proofs.from_initial.Goals.{then-is_initial, else-is_initial}

few : (c : goal.After-loop-i) → length (take c.args.table.now.counts.states c.args.pairs.now) ≡ c.args.table.now.counts.states
few c = length-take-le c.args.table.now.counts.states c.args.pairs.now (omega (arith, few_states c.args.table.now, c.requires))

pub slice_bounds-row-items-end : goal.slice_bounds-row-items-end
slice_bounds-row-items-end c =
    sym (length-take-le c.args.table.now.counts.states c.args.pairs.now (omega (arith, few_states c.args.table.now, c.requires)))

pub loop-i-init : goal.loop-i-init
loop-i-init c = from_none

pub loop-i-preserved : goal.loop-i-preserved
loop-i-preserved c =
    let h = c.loop-i.invariant in
    let states = c.args.table.now.counts.states in
    let pairs = c.args.pairs.now in
    let low : c.loop-i.i < states = omega (arith, length-take-le states pairs (omega (arith, few_states c.args.table.now, c.requires))) in
    elim c.if-is_initial.branch [
      | then-is_initial w ↦ rw w.x-is (rw (get_or-take states pairs c.loop-i.i 0 low) (from_here h c.is_initial.ensures w.if-is_initial.true))
      | else-is_initial w ↦ rw w.x-is (from_past h c.is_initial.ensures w.if-is_initial.false)
    ]

pub returns : goal.returns
returns c = from_all (omega (arith, few c)) (omega (arith, few c)) c.loop-i.invariant
