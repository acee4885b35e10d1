use Rattle.std.proofs.Common.{◌∙◌, ◌<◌, ◌/◌, length, arith, refl, ap}
use Rattle.table.specs.Layout.{moves_part}
use Rattle.nesting.proofs.MovesFound.{move_bounds}
use Rattle.pair_sets.proofs.Closing.{gathered_none, gathered_skip, gathered_more, quad_of, links_here, links_other, linked_all}
use Rattle.pair_sets.proofs.Moves.linked.Goals as goal

pub loop-k-init : goal.loop-k-init
loop-k-init c =
    let b = c.leaving-k-items.ensures in
    rw c.into_iter-k-iterator.ensures.into_iter_gives (record {
      chained = b.chained;
      count = b.all;
      gathered = rw b.first (gathered_none b.chained c.requires.0);
    })

pub bounds-quads-k : goal.bounds-quads-k
bounds-quads-k c =
    omega (arith, c.in-Some.ensures.steps.1.1.1.0, c.loop-k.invariant.count, c.as_chunks.ensures.front_len, ap length c.moves-part.ensures)

pub bounds-quads-k-in-Some : goal.bounds-quads-k-in-Some
bounds-quads-k-in-Some c =
    omega (arith, c.in-Some.ensures.steps.1.1.1.0, c.loop-k.invariant.count, c.as_chunks.ensures.front_len, ap length c.moves-part.ensures)

pub bounds-quads-k-in-Some-2 : goal.bounds-quads-k-in-Some-2
bounds-quads-k-in-Some-2 c =
    omega (arith, c.in-Some.ensures.steps.1.1.1.0, c.loop-k.invariant.count, c.as_chunks.ensures.front_len, ap length c.moves-part.ensures)

pub bounds-inside-from : goal.bounds-inside-from
bounds-inside-from c =
    let low : c.in-Some.k < length (moves_part c.args.self.table.now.bytes.now) / 4 = omega (arith, c.in-Some.ensures.steps.1.1.1.0, c.loop-k.invariant.count) in
    let to = quad_of c.moves-part.ensures c.as_chunks.ensures.front c.in-Some.k low 3 (omega arith) in
    omega (arith, c.requires.1, c.from-then-is_opener.ensures, to, (move_bounds _ c.args.self.table.now.good refl c.in-Some.k low).2)

pub loop-k-preserved-then-is_opener : goal.loop-k-preserved-then-is_opener
loop-k-preserved-then-is_opener c =
    let h = c.loop-k.invariant in
    let s = c.in-Some.ensures.steps in
    let low : c.in-Some.k < length (moves_part c.args.self.table.now.bytes.now) / 4 = omega (arith, s.1.1.1.0, h.count) in
    record {
      chained = rw s.0 h.chained;
      count = s.1.0 ∙ h.count;
      gathered =
          rw s.1.1.1.1
          (gathered_more h.chained low (rw (← s.1.1.0) at h.gathered)
          (links_here _ (quad_of c.moves-part.ensures c.as_chunks.ensures.front c.in-Some.k low) (rw c.from.ensures at c.if-is_opener.true)
          (rw (c.from-then-is_opener.ensures, c.from-then-is_opener-2.ensures) at c.closed-y.ensures)));
    }

pub loop-k-preserved : goal.loop-k-preserved
loop-k-preserved c =
    let h = c.loop-k.invariant in
    let s = c.in-Some.ensures.steps in
    let low : c.in-Some.k < length (moves_part c.args.self.table.now.bytes.now) / 4 = omega (arith, s.1.1.1.0, h.count) in
    record {
      chained = rw s.0 h.chained;
      count = s.1.0 ∙ h.count;
      gathered =
          rw s.1.1.1.1
          (gathered_skip h.chained low (rw (← s.1.1.0) at h.gathered)
          (links_other _ (quad_of c.moves-part.ensures c.as_chunks.ensures.front c.in-Some.k low) (rw c.from.ensures at c.if-is_opener.false)));
    }

pub returns : goal.returns
returns c = linked_all _ c.args.self.table.now.good refl (omega (arith, c.in-None.ensures.steps.1.1, c.loop-k.invariant.count)) c.loop-k.invariant.gathered
