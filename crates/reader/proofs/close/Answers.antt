use Rattle.std.proofs.Common.{arith, refl, sym, ap, ◌∙◌, ◌-◌, ◌<◌}
use Rattle.vpa.specs.TableOnDisk.{kind_in}
use Rattle.table.specs.Meaning.{meant}
use Rattle.table.proofs.Tables.{good_storable}
use Rattle.relation.proofs.Owned.{owned}
use Rattle.reader.specs.Steps.{stops}
use Rattle.reader.proofs.Legal.{ready_long, ready_letter}
use Rattle.reader.proofs.Numbers.{deepest_is, state_size_lem, block_place_lem}
use Rattle.reader.proofs.LentRows.{lent_rows_after, letter_at}
use Rattle.reader.proofs.StepParts.{ready_states, settles_none, settles, written_at, closed_rows}
use Rattle.reader.proofs.close.Goals as goal

pub returns-then-head-eq0 : goal.returns-then-head-eq0
returns-then-head-eq0 c = rw c.stop.ensures (stops (λ j k w. omega (arith, w.deep, c.if-head-eq0.true)))

pub joined-pairs-requires-clause-rows_below : goal.joined-pairs-requires-clause-rows_below
joined-pairs-requires-clause-rows_below c =
    let w = c.args.state.now in
    let d = c.args.head.depth in
    let t = c.args.moves.table.now in
    let r = c.requires.0 in
    rw (lent_rows_after w (d - 1) c.place-below.ensures.0, lent_rows_after w d c.place-top.ensures.0)
    (ready_states _ _ r (good_storable _ t.good).states t.states (d - 1) (omega arith), omega (arith, ready_long _ _ r d (omega arith)))

pub joined-pairs-requires-clause-opener_value : goal.joined-pairs-requires-clause-opener_value
joined-pairs-requires-clause-opener_value c =
    let d = c.args.head.depth in
    let deep : 0 < d = omega (arith, c.if-head-eq0.false) in
    (ap (kind_in (meant c.args.moves.table.now)) (letter_at c.args.state.now d c.place-top.ensures.0) ∙ (ready_letter _ _ c.requires.0 d deep (omega arith)).1, c.requires.1.0)

pub returns-then-is_empty : goal.returns-then-is_empty
returns-then-is_empty c =
    let w = c.args.state.now in
    let d = c.args.head.depth in
    let e = c.place-top.ensures.0 in
    let deep : 0 < d = omega (arith, c.if-head-eq0.false) in
    settles_none (closed_rows _ w deep (lent_rows_after w (d - 1) c.place-below.ensures.0) (letter_at w d e) (lent_rows_after w d e) c.joined-pairs.ensures)
    c.is_empty.ensures c.if-is_empty.true c.stop-then-is_empty.ensures

pub store-requires : goal.store-requires
store-requires c =
    let d = c.args.head.depth in
    let r = c.requires.0 in
    (omega (arith, block_place_lem (d - 1), r.low, r.long, deepest_is, state_size_lem), owned _ _ c.joined-pairs.type_inv)

pub returns : goal.returns
returns c =
    let w = c.args.state.now in
    let d = c.args.head.depth in
    let e = c.place-top.ensures.0 in
    let deep : 0 < d = omega (arith, c.if-head-eq0.false) in
    settles (closed_rows _ w deep (lent_rows_after w (d - 1) c.place-below.ensures.0) (letter_at w d e) (lent_rows_after w d e) c.joined-pairs.ensures)
    c.is_empty.ensures c.if-is_empty.false (owned _ _ c.joined-pairs.type_inv)
    (record {
      middle = c.store.new.state;
      joins = written_at (omega (arith, c.place-below.ensures.0)) refl c.store.ensures;
      clears = written_at (sym e) (omega arith) c.clear.ensures;
    })
    c.close.ensures
