use Rattle.std.proofs.Common.{◌∙◌, ◌<◌, ◌/◌, length, arith, refl, ap}
use Rattle.table.specs.Layout.{moves_part}
use Rattle.nesting.proofs.MovesFound.{move_bounds}
use Rattle.pair_sets.proofs.Closing.{gathered_none, gathered_skip, gathered_more, quad_of, leads_here, leads_other, led_all}
use Rattle.pair_sets.proofs.Moves.led.Goals as goal

pub loop-k-init : goal.loop-k-init
loop-k-init c =
    let b = c.leaving-k-items.ensures in
    rw c.into_iter-k-iterator.ensures.into_iter_gives (record {
      chained = b.chained;
      count = b.all;
      gathered = rw b.first (gathered_none b.chained c.requires);
    })

pub bounds-quads-k : goal.bounds-quads-k
bounds-quads-k c =
    omega (arith, c.in-Some.ensures.steps.1.1.1.0, c.loop-k.invariant.count, c.as_chunks.ensures.front_len, ap length c.moves-part.ensures)

pub bounds-quads-k-in-Some : goal.bounds-quads-k-in-Some
bounds-quads-k-in-Some c =
    omega (arith, c.in-Some.ensures.steps.1.1.1.0, c.loop-k.invariant.count, c.as_chunks.ensures.front_len, ap length c.moves-part.ensures)

pub bounds-quads-k-then-is_asked : goal.bounds-quads-k-then-is_asked
bounds-quads-k-then-is_asked c =
    omega (arith, c.in-Some.ensures.steps.1.1.1.0, c.loop-k.invariant.count, c.as_chunks.ensures.front_len, ap length c.moves-part.ensures)

pub overflow_shl-y : goal.overflow_shl-y
overflow_shl-y c =
    let low : c.in-Some.k < length (moves_part c.args.self.table.now.bytes.now) / 4 = omega (arith, c.in-Some.ensures.steps.1.1.1.0, c.loop-k.invariant.count) in
    rw (quad_of c.moves-part.ensures c.as_chunks.ensures.front c.in-Some.k low 3 (omega arith)) (move_bounds _ c.args.self.table.now.good refl c.in-Some.k low).2

pub loop-k-preserved-then-is_asked : goal.loop-k-preserved-then-is_asked
loop-k-preserved-then-is_asked c =
    let h = c.loop-k.invariant in
    let s = c.in-Some.ensures.steps in
    let low : c.in-Some.k < length (moves_part c.args.self.table.now.bytes.now) / 4 = omega (arith, s.1.1.1.0, h.count) in
    let at = quad_of c.moves-part.ensures c.as_chunks.ensures.front c.in-Some.k low in
    record {
      chained = rw s.0 h.chained;
      count = s.1.0 ∙ h.count;
      gathered =
          rw s.1.1.1.1
          (gathered_more h.chained low (rw (← s.1.1.0) at h.gathered)
          (leads_here _ at (rw (← c.from.ensures, ← c.from-in-loop-k.ensures) c.if-is_asked.true) (rw (at 3 (omega arith)) (move_bounds _ c.args.self.table.now.good refl c.in-Some.k low).2)));
    }

pub loop-k-preserved : goal.loop-k-preserved
loop-k-preserved c =
    let h = c.loop-k.invariant in
    let s = c.in-Some.ensures.steps in
    let low : c.in-Some.k < length (moves_part c.args.self.table.now.bytes.now) / 4 = omega (arith, s.1.1.1.0, h.count) in
    record {
      chained = rw s.0 h.chained;
      count = s.1.0 ∙ h.count;
      gathered =
          rw s.1.1.1.1
          (gathered_skip h.chained low (rw (← s.1.1.0) at h.gathered)
          (leads_other _ (quad_of c.moves-part.ensures c.as_chunks.ensures.front c.in-Some.k low) (rw (← c.from.ensures, ← c.from-in-loop-k.ensures) c.if-is_asked.false)));
    }

pub returns : goal.returns
returns c = led_all _ c.args.self.table.now.good refl (omega (arith, c.in-None.ensures.steps.1.1, c.loop-k.invariant.count)) c.loop-k.invariant.gathered
