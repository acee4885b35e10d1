use Rattle.std.proofs.Common.{rules, arith}
use Rattle.lengths.proofs.Chains.{moves_most, chained_forward}
use Rattle.lengths.proofs.Links.leaving.Goals as goal

pub new-requires : goal.new-requires
new-requires c =
    let e = c.moves.ensures in
    (omega (arith, c.requires), (moves_most _ c.args.self.table.now.good e, rw e (chained_forward c.args.self.by_from)))

pub returns : goal.returns
returns c = search rules
