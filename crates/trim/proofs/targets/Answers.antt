-- A move more leads where it ends, if it has the mark.
use Rattle.std.proofs.Common.{arith, sym, ◌∙◌, []}
use Rattle.trim.proofs.Blocks.{quad_at, arrived_none, arrived_skip, arrived_take, arrived_all}
use Rattle.trim.proofs.targets.Goals.{then-from-mark, else-from-mark}
use Rattle.trim.proofs.targets.Goals as goal

pub loop-with-init : goal.loop-with-init
loop-with-init c = arrived_none _ _ _

pub bounds-here-from : goal.bounds-here-from
bounds-here-from c =
    let k = c.loop-with.with-index in
    let to = quad_at c.args.block.now c.as_chunks.ensures.front c.as_chunks.ensures.front_len k 3 [] c.loop-with-test.true (omega arith) in
    let low = c.requires.at k (omega (arith, c.as_chunks.ensures.front_len)) in
    omega (arith, c.from-then-from-mark.ensures)

pub loop-with-preserved : goal.loop-with-preserved
loop-with-preserved c =
    let k = c.loop-with.with-index in
    let with = quad_at c.args.block.now c.as_chunks.ensures.front c.as_chunks.ensures.front_len k 2 [] c.loop-with-test.true (omega arith) in
    let to = quad_at c.args.block.now c.as_chunks.ensures.front c.as_chunks.ensures.front_len k 3 [] c.loop-with-test.true (omega arith) in
    elim c.if-from-mark.branch [
      | then-from-mark w ↦
          rw w.r-is (arrived_take c.loop-with.invariant (sym with ∙ sym c.from.ensures ∙ w.if-from-mark.true) (sym to ∙ sym w.from-then-from-mark.ensures))
      | else-from-mark w ↦ rw w.r-is (arrived_skip c.loop-with.invariant (λ e. w.if-from-mark.false (c.from.ensures ∙ with ∙ e)))
    ]

pub returns : goal.returns
returns c = arrived_all (omega (arith, c.as_chunks.ensures.front_len)) (omega (arith, c.as_chunks.ensures.front_len)) c.loop-with.invariant
