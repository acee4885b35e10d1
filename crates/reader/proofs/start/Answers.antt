use Rattle.std.proofs.Common.{arith, ap, suc, ◌+◌, ◌≡◌}
use Rattle.table.specs.Meaning.{meant}
use Rattle.table.proofs.Tables.{good_storable}
use Rattle.relation.proofs.Owned.{owned}
use Rattle.reader.specs.Layout.{block_place}
use Rattle.reader.proofs.Numbers.{state_size_lem, block_place_lem}
use Rattle.reader.proofs.Placing.{begun_stopped, begun_placed}
use Rattle.reader.proofs.start.Goals as goal

pub store-requires : goal.store-requires
store-requires c = (omega (arith, state_size_lem, c.clear.ensures.long, block_place_lem 0), owned _ _ c.begun-pairs.type_inv)

pub returns-clause-value : goal.returns-clause-value
returns-clause-value c = ap (λ s. record { taken = 0; depth = 0; stopped = s }) (begun_stopped (meant c.args.table.now) c.begun-pairs.ensures c.is_empty.ensures)

pub returns-clause-state_after : goal.returns-clause-state_after
returns-clause-state_after c =
    let t = meant c.args.table.now in
    let place : suc (block_place 0) ≡ c.place.result + 1 = omega (arith, c.place.ensures.0) in
    begun_placed t c.begun-pairs.ensures _ (good_storable _ c.args.table.now.good).states c.requires (owned _ _ c.begun-pairs.type_inv)
    (ap (λ s. record { taken = 0; depth = 0; stopped = s }) (begun_stopped t c.begun-pairs.ensures c.is_empty.ensures))
    (rw (← state_size_lem) at c.clear.ensures) (rw (← place) at c.store.ensures) c.put_head.ensures
