use Rattle.shortest.proofs.Finding.{via_nearer, via_kept}
use Rattle.shortest.proofs.nearest_via.Goals as goal
use Rattle.shortest.proofs.nearest_via.Goals.{then-first-least, else-first-least}

pub loop-r-preserved : goal.loop-r-preserved
loop-r-preserved c =
    let h = c.loop-r.invariant in
    let f = c.length_at-first.ensures.0 in
    let g = c.length_at-second.ensures.0 in
    let e = c.length_at-whole.ensures.0 in
    elim c.if-first-least.branch [
      | then-first-least w ↦ via_nearer h f g e c.loop-r-test.true w.if-first-least.true w.best-is w.least-is
      | else-first-least w ↦ via_kept h f g e w.if-first-least.false w.best-is w.least-is
    ]
