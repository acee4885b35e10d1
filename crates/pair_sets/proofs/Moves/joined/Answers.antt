use Rattle.std.proofs.Common.{arith}
use Rattle.table.proofs.CheckedCounts.{few_states}
use Rattle.pair_sets.proofs.Closing.{joined_links}
use Rattle.pair_sets.proofs.Moves.joined.Goals as goal

pub together-halves-requires : goal.together-halves-requires
together-halves-requires c = (omega arith, omega (arith, few_states c.args.self.table.now, c.requires.rows_below.0.rows))

pub join_lent-requires : goal.join_lent-requires
join_lent-requires c = (few_states c.args.self.table.now, (c.requires.rows_below.0, omega arith))

pub returns : goal.returns
returns c =
    let p = c.requires in
    joined_links p.opener_value.0 p.opener_value.1 p.rows_below.0 c.together-halves.ensures c.links-through.ensures c.join_lent.ensures
