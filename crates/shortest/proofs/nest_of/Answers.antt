use Rattle.std.proofs.Common.{refl, arith}
use Rattle.table.specs.Layout.{moves_part}
use Rattle.table.specs.Meaning.{meant}
use Rattle.lengths.specs.Steps.{length_in}
use Rattle.lengths.proofs.Chains.{moves_most}
use Rattle.shortest.specs.Steps.{NestAt}
use Rattle.shortest.proofs.nest_of.Goals as goal
use Rattle.shortest.proofs.nest_of.Goals.{After-unwrap-nest}

found : (c : After-unwrap-nest) →
    let a = c.args in
    let n = c.unwrap-nest.result in
    NestAt (meant a.links.table.now) (moves_part a.links.table.now.bytes.now) (length_in a.scratch.now) a.p a.r a.moves n.opens n.closes
found c = rw c.unwrap-nest.ensures at c.find_nest.ensures

pub overflow_cast-hints : goal.overflow_cast-hints
overflow_cast-hints c = omega (arith, (found (goal.at.overflow_cast-hints c).After-unwrap-nest).closer.low, moves_most _ c.args.links.table.now.good refl)
