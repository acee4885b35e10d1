use Rattle.std.proofs.Common.{◌<◌, arith, get_or-take, length-take-le}
use Rattle.relation.proofs.Relations.{built_none, built_more, built_all, row_low}
use Rattle.relation.proofs.Walks.{joined_digits}
use Rattle.relation.proofs.join_lent.Goals as goal

pub loop-j-init : goal.loop-j-init
loop-j-init c = built_none _

pub loop-j-preserved : goal.loop-j-preserved
loop-j-preserved c =
    let long = length-take-le c.args.count c.args.r.now (omega (arith, c.requires.0, c.requires.1.0.rows)) in
    let inside : c.loop-j.j < c.args.count = omega (arith, long, c.loop-j-test.true) in
    built_more c.joined_row.type_inv (omega (arith, inside, c.requires.0)) c.loop-j.invariant
    (joined_digits (rw (get_or-take c.args.count c.args.r.now c.loop-j.j 0 inside) at c.joined_row.ensures))

pub returns : goal.returns
returns c =
    let long = length-take-le c.args.count c.args.r.now (omega (arith, c.requires.0, c.requires.1.0.rows)) in
    built_all {m = c.args.count} (omega (arith, long, c.loop-j-test.false)) (λ j k h. row_low c.requires.1.0 h.first) c.loop-j.invariant
