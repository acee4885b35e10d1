use Rattle.std.proofs.Common.{arith}
use Rattle.relation.proofs.Owned.{owned}
use Rattle.nesting.proofs.MovesFound.{chunk_bounds, chunk_skipped, chunk_taken, chunks_all, moves_empty}
use Rattle.nesting.proofs.moves_of.Goals as goal
use Rattle.nesting.proofs.moves_of.Goals.{then-has_kind_and_mark, else-has_kind_and_mark}

pub loop-from-init : goal.loop-from-init
loop-from-init c = moves_empty _ _ _ _ (owned _ _ c.empty-r.type_inv) c.empty-r.ensures

pub overflow_shl-r : goal.overflow_shl-r
overflow_shl-r c = (chunk_bounds _ c.requires c.checked_moves-part.ensures c.as_chunks.ensures.front c.as_chunks.ensures.front_len _ c.loop-from-test.true).1

pub bounds-r-from : goal.bounds-r-from
bounds-r-from c =
    let low = chunk_bounds _ c.requires c.checked_moves-part.ensures c.as_chunks.ensures.front c.as_chunks.ensures.front_len _ c.loop-from-test.true in
    omega (arith, low.0, c.from.ensures)

pub bounds-r-from-then-has_kind_and_mark : goal.bounds-r-from-then-has_kind_and_mark
bounds-r-from-then-has_kind_and_mark c =
    let low = chunk_bounds _ c.requires c.checked_moves-part.ensures c.as_chunks.ensures.front c.as_chunks.ensures.front_len _ c.loop-from-test.true in
    omega (arith, low.0, c.from.ensures)

pub loop-from-preserved : goal.loop-from-preserved
loop-from-preserved c =
    let part = c.checked_moves-part.ensures in
    let front = c.as_chunks.ensures.front in
    let count = c.as_chunks.ensures.front_len in
    let below = c.loop-from-test.true in
    let tested = c.has_kind_and_mark.ensures in
    elim c.if-has_kind_and_mark.branch [
      | then-has_kind_and_mark w ↦ rw w.r-is (chunk_taken _ c.requires part front count _ below c.loop-from.invariant tested w.if-has_kind_and_mark.true w.from.ensures)
      | else-has_kind_and_mark w ↦ rw w.r-is (chunk_skipped _ c.requires part front count _ below c.loop-from.invariant tested w.if-has_kind_and_mark.false)
    ]

pub returns : goal.returns
returns c = chunks_all _ c.requires _ c.checked_moves-part.ensures c.as_chunks.ensures.front_len c.loop-from.auto.from-index-end c.loop-from-test.false c.loop-from.invariant
