-- Each number that is read is that of its row.
use Rattle.std.proofs.Common.{rules, arith, [], get_or, ◌∙◌}
use Rattle.std.proofs.iter.Serving.{serving}
use Rattle.vpa.proofs.FromFn.{made_by}
use Rattle.table.proofs.Quads.{quad_byte}
use Rattle.nesting.proofs.Cleared.{scratch_size_lem}
use Rattle.triples.proofs.column.Goals as goal

pub from_fn-requires : goal.from_fn-requires
from_fn-requires c = grind (serving, scratch_size_lem, c.as_chunks.ensures)

pub returns : goal.returns
returns c =
    let a = c.args in
    let room = c.requires.1 in
    record {
      long = c.from_fn.ensures.items.long;
      at = λ i l. made_by (λ i. get_or (get_or c.as_chunks.result.0.now i []) a.place 0) (λ i y q k. search rules) c.from_fn.ensures.items 0 i (omega arith)
          ∙ rw c.as_chunks.ensures.front (quad_byte a.scratch.now i a.place [] (omega (arith, scratch_size_lem, room)) (omega (arith, c.requires.0)));
    }
