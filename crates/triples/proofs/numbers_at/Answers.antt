-- A number more is put into the row of its value.
use Rattle.std.proofs.Common.{arith, ◌<◌}
use Rattle.std.proofs.lemmas.List.{get_or-take, length-take}
use Rattle.relation.proofs.Owned.{owned}
use Rattle.triples.proofs.Numbers.{numbers_none, numbers_take, numbers_all}
use Rattle.triples.proofs.numbers_at.Goals as goal

pub loop-j-init : goal.loop-j-init
loop-j-init c = numbers_none _ _

pub loop-j-preserved : goal.loop-j-preserved
loop-j-preserved c =
    let l : c.loop-j.j < c.args.n = omega (arith, length-take c.args.n c.args.values) in
    rw (get_or-take c.args.n c.args.values c.loop-j.j 0 l) (numbers_take c.loop-j.invariant tt (c.requires.at _ l) (omega (arith, c.requires.most)))

pub returns : goal.returns
returns c =
    let e = length-take c.args.n c.args.values in
    let rows = (owned c.args.values _ c.well_formed.0).rows in
    numbers_all (omega (arith, e)) (omega (arith, e, rows, c.requires.most)) c.loop-j.invariant
