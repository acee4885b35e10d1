-- A row more is made from the two that the values of its number name.
use Rattle.std.proofs.Common.{arith, ◌<◌}
use Rattle.std.proofs.lemmas.List.{get_or-take, length-take}
use Rattle.relation.proofs.Owned.{owned}
use Rattle.relation.proofs.Relations.{built_none}
use Rattle.triples.proofs.Numbers.{levels_more, levels_all}
use Rattle.triples.proofs.on_levels.Goals as goal

pub loop-i-init : goal.loop-i-init
loop-i-init c = built_none _

pub loop-i-preserved : goal.loop-i-preserved
loop-i-preserved c =
    let l : c.loop-i.i < c.args.n = omega (arith, length-take c.args.n c.args.first) in
    rw (get_or-take c.args.n c.args.first c.loop-i.i 0 l)
    (levels_more (owned _ _ c.well_formed.0) l (omega (arith, c.requires.0.most)) c.loop-i.invariant)

pub returns : goal.returns
returns c =
    let rows = (owned c.args.first _ c.well_formed.1.1.0).rows in
    levels_all (omega (arith, length-take c.args.n c.args.first, rows, c.requires.0.most)) c.loop-i.invariant
