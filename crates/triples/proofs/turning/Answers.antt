-- A number more is put into the row of its far value, or passed over.
use Rattle.std.proofs.Common.{arith, ◌<◌}
use Rattle.std.proofs.lemmas.List.{get_or-take, length-take}
use Rattle.relation.proofs.Owned.{owned}
use Rattle.triples.proofs.Numbers.{numbers_none, numbers_skip, numbers_take, turning_all}
use Rattle.triples.proofs.turning.Goals.{then-third-j, else-third-j}
use Rattle.triples.proofs.turning.Goals as goal

pub loop-j-init : goal.loop-j-init
loop-j-init c = numbers_none _ _

pub loop-j-preserved : goal.loop-j-preserved
loop-j-preserved c =
    let l : c.loop-j.j < c.args.n = omega (arith, length-take c.args.n c.args.far) in
    elim c.if-third-j.branch [
      | then-third-j w ↦
          rw (w.r-is, get_or-take c.args.n c.args.far c.loop-j.j 0 l)
          (numbers_take c.loop-j.invariant w.if-third-j.true (c.requires.at _ l) (omega (arith, c.requires.most)))
      | else-third-j w ↦ rw w.r-is (numbers_skip c.loop-j.invariant w.if-third-j.false)
    ]

pub returns : goal.returns
returns c =
    let e = length-take c.args.n c.args.far in
    let rows = (owned c.args.far _ c.well_formed.1.0).rows in
    turning_all (omega (arith, e)) (omega (arith, e, rows, c.requires.most)) c.loop-j.invariant
